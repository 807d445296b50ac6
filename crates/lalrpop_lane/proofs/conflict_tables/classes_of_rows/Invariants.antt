use Rattle.std.proofs.Common.{Contains, List, ℕ}
use Rattle.lalrpop_lr1_core.specs.declared.state_index.StateIndex.{StateIndex}
use Rattle.lalrpop_lane_tables.specs.MergeViews.{AreClasses}
use Rattle.lalrpop_lane.specs.Merges.{HaveColumns}
use Rattle.lalrpop_lane.proofs.conflict_tables.classes_of_rows.Given as goal

abbrev pub invariant-loop-state : goal.invariant-loop-state
invariant-loop-state l = record {
  classes : (count : ℕ) → HaveColumns count l.rows → AreClasses count l.sets l.unify;
  there : (e : StateIndex × List (List ℕ)) → Contains l.state-iterator e → Contains l.rows e;
}
