use Rattle.std.proofs.Common.{ℕ, List, take}
use Rattle.lalrpop_lr1_theory.specs.States.{LookaheadSet}
use Rattle.lalrpop_lr1_check_lookaheads.specs.PropagationEdges.{GainsEdges, PropagatesBy}
use Rattle.lalrpop_lr1_check_lookaheads.specs.LookaheadSlots.{slot_key}
use Rattle.lalrpop_lr1_check_lookaheads.proofs.PropagationEdgeLemmas.{SomePropagates}
use Rattle.lalrpop_lr1_check_lookaheads.proofs.lookaheads.propagation.propagate.Given as goal

abbrev pub invariant-loop-production : goal.invariant-loop-production
invariant-loop-production l = (look : List ℕ → LookaheadSet) →
    GainsEdges l.from l.fn.slots l.fn.edges.items l.slots l.edges.items
    (SomePropagates l.from (λ p. PropagatesBy l.grammar look l.states (slot_key l.slot) p.now) (take l.production-index l.productions))
