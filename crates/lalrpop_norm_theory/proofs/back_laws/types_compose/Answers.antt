use Rattle.lalrpop_norm_theory.proofs.ComposedTypeLemmas.{types_composed}
use Rattle.lalrpop_norm_theory.proofs.back_laws.types_compose.Goals as goal

pub returns : goal.returns
returns c = λ g h k f e there a b x t i. types_composed g h k f e there a b x t i
