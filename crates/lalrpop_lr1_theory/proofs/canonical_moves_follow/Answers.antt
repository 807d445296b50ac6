use Rattle.std.proofs.Common.{Contains}
use Rattle.lalrpop_lr1_theory.specs.States.{HasEdge, HasItem, HasLookahead, Reduces}
use Rattle.lalrpop_lr1_theory.proofs.CanonicalLemmas.{canonical_follows}
use Rattle.lalrpop_lr1_theory.proofs.ReductionLemmas.{reduces_finished}
use Rattle.lalrpop_lr1_theory.proofs.canonical_moves_follow.Goals as goal

pub returns : goal.returns
returns c = λ grammar s states nb can f n x v o w a.
    canonical_follows (Contains grammar) s (HasItem states) (HasEdge states) (HasLookahead states) can.automaton (Reduces states)
    (reduces_finished grammar s states can) nb f n x v o w a
