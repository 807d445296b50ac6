use Rattle.std.proofs.Common.{◌≡◌, map, take}
use Rattle.lalrpop_lr1_check_lookaheads.specs.ListTests.{HoldsAtFirst}
use Rattle.lalrpop_lr1_check_lookaheads.specs.SeenEdges.{HasOrderedEdges, noted_edge, edges_of_states}
use Rattle.lalrpop_lr1_check_lookaheads.proofs.parts.edges.edges_of.Given as goal

abbrev pub invariant-loop-source : goal.invariant-loop-source
invariant-loop-source l = record {
  edges : map noted_edge l.edges.items ≡ edges_of_states (take l.source l.states);
  ordered : HoldsAtFirst (λ _ state. HasOrderedEdges state) l.states l.source;
}
