use Rattle.std.proofs.Common.{length}
use Rattle.lalrpop_lane_tables.specs.ColumnAnswers.{AreGathered}
use Rattle.lalrpop_lane_tables.specs.RowColumns.{EntrySays, IsRowBelow}
use Rattle.lalrpop_lane_tables.proofs.lane_tables.insert_row.Given as goal

abbrev pub invariant-loop-column : goal.invariant-loop-column
invariant-loop-column l = record {
  gathering : AreGathered EntrySays l.row l.initial.columns l.columns l.column-iterator;
  within : IsRowBelow (length l.initial.columns) l.column-iterator;
}
