use Rattle.std.proofs.Common.{Contains}
use Rattle.lalrpop_lr1_theory.specs.States.{HasEdge, HasItem}
use Rattle.lalrpop_lr1_theory.proofs.TestCoverLemmas.{cover_tested}
use Rattle.lalrpop_lr1_theory.proofs.check_laws.covers_are_tested.Goals as goal

pub returns : goal.returns
returns c = λ grammar s states. cover_tested (Contains grammar) s (HasItem states) (HasEdge states)
