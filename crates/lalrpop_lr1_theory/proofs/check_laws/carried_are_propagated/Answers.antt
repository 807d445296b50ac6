use Rattle.std.proofs.Common.{Contains}
use Rattle.lalrpop_lr1_theory.specs.States.{HasEdge, HasItem, Reduces}
use Rattle.lalrpop_lr1_theory.proofs.PropagatedLemmas.{reduces_carried, reduces_propagated}
use Rattle.lalrpop_lr1_theory.proofs.check_laws.carried_are_propagated.Goals as goal

pub returns : goal.returns
returns c = λ grammar s states. (
  λ f. reduces_propagated (Contains grammar) s (HasItem states) (HasEdge states) (Reduces states) f,
  λ f. reduces_carried (Contains grammar) s (HasItem states) (HasEdge states) (Reduces states) f,
)
