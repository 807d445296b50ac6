use Rattle.std.proofs.Common.{ℕ, List, ◌-◌, ◌^◌}
use Rattle.lalrpop_lr1_theory.specs.States.{LookaheadSet}
use Rattle.lalrpop_lr1_first.specs.NumberedGrammars.{table_productions}
use Rattle.lalrpop_lr1_check_lookaheads.specs.PropagationEdges.{ArePropagationEdges}
use Rattle.lalrpop_lr1_check_lookaheads.proofs.lookaheads.propagation.propagation_edges.Given as goal

abbrev pub invariant-loop-slot : goal.invariant-loop-slot
invariant-loop-slot l = (look : List ℕ → LookaheadSet) →
    ArePropagationEdges l.grammar look l.states (table_productions l.named.table.now) l.fn.slots l.slots l.edges.items l.number

abbrev pub decreases-loop-slot : goal.decreases-loop-slot
decreases-loop-slot l = 2 ^ 64 - l.number
