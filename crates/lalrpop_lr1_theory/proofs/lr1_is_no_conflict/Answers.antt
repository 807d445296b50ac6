use Rattle.std.proofs.Common.{Contains}
use Rattle.lalrpop_lr1_theory.specs.States.{HasEdge, HasItem, HasLookahead, Reduces}
use Rattle.lalrpop_lr1_theory.proofs.CanonicalLemmas.{lr1_iff_no_conflict}
use Rattle.lalrpop_lr1_theory.proofs.ReductionLemmas.{reduces_finished}
use Rattle.lalrpop_lr1_theory.proofs.lr1_is_no_conflict.Goals as goal

pub returns : goal.returns
returns c = λ grammar s states nb can.
    lr1_iff_no_conflict (Contains grammar) s (HasItem states) (HasEdge states) (HasLookahead states) can.automaton (Reduces states)
    (reduces_finished grammar s states can) nb
