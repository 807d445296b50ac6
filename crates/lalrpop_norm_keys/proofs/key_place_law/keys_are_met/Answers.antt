use Rattle.lalrpop_norm_keys.proofs.MetKeyLemmas.{met_are_keys}
use Rattle.lalrpop_norm_keys.proofs.key_place_law.keys_are_met.Goals as goal

pub returns : goal.returns
returns c = λ s k w. met_are_keys s k w
