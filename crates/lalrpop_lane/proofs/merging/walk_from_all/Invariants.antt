use Rattle.lalrpop_lane_tables.specs.MergeViews.{AreClasses, MergeKeeps}
use Rattle.lalrpop_lane.proofs.merging.walk_from_all.Given as goal

abbrev pub invariant-loop-beachhead : goal.invariant-loop-beachhead
invariant-loop-beachhead l = record {
  classes : AreClasses l.table.conflicts l.sets l.unify;
  kept : MergeKeeps l.fn.merge l.fn.states.items l.merge l.states.items;
}
