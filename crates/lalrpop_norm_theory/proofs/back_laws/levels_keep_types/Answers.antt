use Rattle.lalrpop_norm_theory.proofs.LevelTypeLemmas.{levels_keep}
use Rattle.lalrpop_norm_theory.proofs.back_laws.levels_keep_types.Goals as goal

pub returns : goal.returns
returns c = λ finds g f w x t i. levels_keep finds g f w x t i
