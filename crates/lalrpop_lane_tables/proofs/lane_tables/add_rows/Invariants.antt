use Rattle.std.proofs.Common.{Contains}
use Rattle.lalrpop_lr1_core.specs.declared.state_index.StateIndex.{StateIndex}
use Rattle.lalrpop_lane_tables.specs.RowColumns.{AreColumnsOfRows, AreRowsBelow}
use Rattle.lalrpop_lane_tables.specs.TableViews.{TokenRow}
use Rattle.lalrpop_lane_tables.proofs.lane_tables.add_rows.Given as goal

abbrev pub invariant-loop-state : goal.invariant-loop-state
invariant-loop-state l = record {
  made : AreColumnsOfRows l.conflicts l.lookaheads l.state-iterator l.rows;
  within : AreRowsBelow l.conflicts l.state-iterator;
  there : (e : StateIndex × TokenRow) → Contains l.state-iterator e → Contains l.lookaheads e;
}
