use Rattle.std.proofs.Common.{length}
use Rattle.lalrpop_lane_tables.specs.ColumnAnswers.{AreGathered}
use Rattle.lalrpop_lane_tables.specs.RowColumns.{AreRowsBelow}
use Rattle.lalrpop_lane_tables.proofs.RowLemmas.{RowSays}
use Rattle.lalrpop_lane_tables.proofs.lane_tables.insert_rows.Given as goal

abbrev pub invariant-loop-state : goal.invariant-loop-state
invariant-loop-state l = record {
  gathering : AreGathered RowSays l.rows l.initial.columns l.columns l.state-iterator;
  within : AreRowsBelow (length l.initial.columns) l.state-iterator;
}
