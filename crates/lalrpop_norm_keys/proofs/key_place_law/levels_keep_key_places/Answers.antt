use Rattle.lalrpop_norm_keys.proofs.LeveledKeyLemmas.{leveled_key_place}
use Rattle.lalrpop_norm_keys.proofs.key_place_law.levels_keep_key_places.Goals as goal

pub returns : goal.returns
returns c = λ finds g f w y p shape h. leveled_key_place finds g f w y p shape h
