use Rattle.std.proofs.Common.{ℕ, List}
use Rattle.lalrpop_lr1_theory.specs.States.{LookaheadSet}
use Rattle.lalrpop_lr1_check_lookaheads.specs.PropagationEdges.{GainsEdges, PropagatesBelow}
use Rattle.lalrpop_lr1_check_lookaheads.proofs.lookaheads.propagation.propagate_along.Given as goal

abbrev pub invariant-loop-dot : goal.invariant-loop-dot
invariant-loop-dot l = (look : List ℕ → LookaheadSet) →
    GainsEdges l.from l.fn.slots l.fn.edges.items l.slots l.edges.items (PropagatesBelow l.grammar look l.states l.state l.symbols l.dot)
