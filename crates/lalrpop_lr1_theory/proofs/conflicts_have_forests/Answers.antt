use Rattle.std.proofs.Common.{Contains}
use Rattle.lalrpop_lr1_theory.specs.States.{HasEdge, HasItem, HasLookahead, Reduces}
use Rattle.lalrpop_lr1_theory.proofs.CanonicalLemmas.{both_valid}
use Rattle.lalrpop_lr1_theory.proofs.ReductionLemmas.{reduces_finished}
use Rattle.lalrpop_lr1_theory.proofs.conflicts_have_forests.Goals as goal

pub returns : goal.returns
returns c = λ grammar s states nb can n x v w a b.
    both_valid (Contains grammar) s (HasItem states) (HasEdge states) (HasLookahead states) can.automaton (Reduces states)
    (reduces_finished grammar s states can) nb n x v w a b
