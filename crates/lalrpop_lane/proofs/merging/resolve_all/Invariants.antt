use Rattle.std.proofs.Common.{◌≡◌}
use Rattle.lalrpop_lr1_core.specs.Edges.{edges_of}
use Rattle.lalrpop_lane.specs.Merges.{MergesKeep}
use Rattle.lalrpop_lane.proofs.merging.resolve_all.Given as goal

abbrev pub invariant-loop-state : goal.invariant-loop-state
invariant-loop-state l = record {
  kept : MergesKeep l.fn.states.items l.copies l.states.items l.left;
  graph : l.graph ≡ edges_of l.states.items;
}
