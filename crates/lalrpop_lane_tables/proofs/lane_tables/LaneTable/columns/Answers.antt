use Rattle.std.proofs.Common.{rules, ◌≡◌, Err, subst}
use Rattle.lalrpop_lane_tables.specs.ColumnAnswers.{ColumnsAnswer}
use Rattle.lalrpop_lane_tables.specs.TableViews.{SomeRowHolds, TableView, noted_view, rows_view}
use Rattle.lalrpop_lane_tables.proofs.GatherLemmas.{columns_of_empty, columns_refused}
use Rattle.lalrpop_lane_tables.proofs.InsertLemmas.{empty_holds}
use Rattle.lalrpop_lane_tables.proofs.RowLemmas.{whole_within}
use Rattle.lalrpop_lane_tables.proofs.lane_tables.LaneTable.columns.Goals as goal

pub insert_rows-requires : goal.insert_rows-requires
insert_rows-requires c =
    rw c.in_ok-columns.ensures.count (whole_within c.self.inside.conflicts c.self.inside.lookaheads (noted_view c.self.inside.successors) c.self.invariant.whole)

pub returns-in_err-insert_rows : goal.returns-in_err-insert_rows
returns-in_err-insert_rows c =
    let is : c.from_residual-in_err-insert_rows.result ≡ Err c.in_err-insert_rows.field-0.0 = search rules in
    rw is (subst (λ (t : TableView). ColumnsAnswer t.conflicts (SomeRowHolds t.rows) (Err c.in_err-insert_rows.field-0.0)) c.self.view_is
    (columns_refused (SomeRowHolds (rows_view c.self.inside.lookaheads)) c.self.inside.conflicts c.in_ok-columns.columns
    (empty_holds c.in_ok-columns.columns c.in_ok-columns.ensures.empty) (Unit {0}) c.insert_rows.new.columns c.in_err-insert_rows.field-0.0
    c.in_err-insert_rows.ensures))

pub returns : goal.returns
returns c =
    rw (← c.self.view_is) (columns_of_empty (SomeRowHolds (rows_view c.self.inside.lookaheads)) c.self.inside.conflicts c.in_ok-columns.columns
    (empty_holds c.in_ok-columns.columns c.in_ok-columns.ensures.empty) c.insert_rows.new.columns c.in_ok-columns.ensures.count
    c.in_ok-insert_rows.ensures)
