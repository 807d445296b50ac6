use Rattle.lalrpop_norm_theory.proofs.LevelBackLemmas.{leveled_place}
use Rattle.lalrpop_norm_theory.proofs.place_law.levels_keep_places.Goals as goal

pub returns : goal.returns
returns c = λ finds g f w depth y p m. leveled_place finds g f w depth y p m
