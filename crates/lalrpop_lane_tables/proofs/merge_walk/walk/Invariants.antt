use Rattle.lalrpop_lane_tables.specs.CopiedStates.{CopyingKeeps}
use Rattle.lalrpop_lane_tables.specs.MergeViews.{AreClasses}
use Rattle.lalrpop_lane_tables.specs.MergeWalks.{walk_left}
use Rattle.lalrpop_lane_tables.proofs.merge_walk.walk.Given as goal

abbrev pub invariant-loop-step : goal.invariant-loop-step
invariant-loop-step l = record {
  classes : AreClasses l.table.conflicts l.sets l.unify;
  kept : CopyingKeeps l.fn.copying l.fn.states.items l.copying l.states.items;
}

abbrev pub decreases-loop-step : goal.decreases-loop-step
decreases-loop-step l = walk_left l.visited l.steps.items
