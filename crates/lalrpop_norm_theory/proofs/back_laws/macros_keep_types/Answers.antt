use Rattle.lalrpop_norm_theory.proofs.KeyStepLemmas.{macros_keep_types}
use Rattle.lalrpop_norm_theory.proofs.back_laws.macros_keep_types.Goals as goal

pub returns : goal.returns
returns c = λ g h f keys w d x t i. macros_keep_types g h f keys w d x t i
