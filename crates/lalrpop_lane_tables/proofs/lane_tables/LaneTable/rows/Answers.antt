use Rattle.std.proofs.Common.{rules, ◌≡◌, Err, subst}
use Rattle.lalrpop_lane_tables.specs.TableViews.{AreTableRows, RowsAnswer, TableView, noted_view}
use Rattle.lalrpop_lane_tables.proofs.RowLemmas.{all_rows_refused, table_rows, whole_within}
use Rattle.lalrpop_lane_tables.proofs.lane_tables.LaneTable.rows.Goals as goal

pub add_rows-requires-clause-within : goal.add_rows-requires-clause-within
add_rows-requires-clause-within c =
    whole_within c.self.inside.conflicts c.self.inside.lookaheads (noted_view c.self.inside.successors) c.self.invariant.whole

pub returns-in_err-add_rows : goal.returns-in_err-add_rows
returns-in_err-add_rows c =
    let is : c.from_residual.result ≡ Err c.in_err-add_rows.field-0.0 = search rules in
    rw is (subst (λ (t : TableView). RowsAnswer t (Err c.in_err-add_rows.field-0.0)) c.self.view_is
    (all_rows_refused c.self.inside.conflicts c.self.inside.lookaheads c.self.inside.successors c.self.invariant.rows_ascend c.add_rows.new.rows
    c.in_err-add_rows.field-0.0 c.in_err-add_rows.ensures))

pub returns : goal.returns
returns c =
    subst (λ (t : TableView). AreTableRows t c.add_empty_rows.new.rows) c.self.view_is
    (table_rows c.self.inside.conflicts c.self.inside.lookaheads c.self.inside.successors c.self.invariant.rows_ascend c.self.invariant.whole
    c.add_rows.new.rows c.add_empty_rows.new.rows c.in_ok-add_rows.ensures c.in_ok-add_empty_rows.ensures)
