use Rattle.lalrpop_lane_tables.specs.RowColumns.{GainsEmptyRows}
use Rattle.lalrpop_lane_tables.proofs.lane_tables.add_empty_rows.Given as goal

abbrev pub invariant-loop-state : goal.invariant-loop-state
invariant-loop-state l = GainsEmptyRows l.conflicts l.successors l.state-iterator l.initial.rows l.rows
