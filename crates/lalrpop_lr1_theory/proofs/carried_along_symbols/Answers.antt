use Rattle.std.proofs.Common.{Contains}
use Rattle.lalrpop_lr1_theory.specs.States.{HasEdge}
use Rattle.lalrpop_lr1_theory.proofs.RunLemmas.{carried_lifts}
use Rattle.lalrpop_lr1_theory.proofs.carried_along_symbols.Goals as goal

pub returns : goal.returns
returns c = λ grammar s states n p i x k. carried_lifts (Contains grammar) s (HasEdge states) n p i x k
