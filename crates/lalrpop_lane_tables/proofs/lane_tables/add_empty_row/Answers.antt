use Rattle.lalrpop_lane_tables.proofs.lane_tables.add_empty_row.Goals as goal

pub returns : goal.returns
returns c = record {
  columns = c.in_ok-columns.columns;
  long = c.in_ok-columns.ensures.count;
  none = c.in_ok-columns.ensures.empty;
  added = c.in_ok-insert.ensures.ok;
}
