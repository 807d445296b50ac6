use Rattle.std.proofs.Common.{rules, ◌≡◌, Err}
use Rattle.lalrpop_lane_tables.specs.RowColumns.{HoldsInRow}
use Rattle.lalrpop_lane_tables.proofs.GatherLemmas.{columns_of_empty, columns_refused}
use Rattle.lalrpop_lane_tables.proofs.InsertLemmas.{empty_holds}
use Rattle.lalrpop_lane_tables.proofs.lane_tables.columns_of_row.Goals as goal

pub insert_row-requires : goal.insert_row-requires
insert_row-requires c = rw c.in_ok-columns.ensures.count c.requires

pub returns-in_err-insert_row : goal.returns-in_err-insert_row
returns-in_err-insert_row c =
    let is : c.from_residual-in_err-insert_row.result ≡ Err c.in_err-insert_row.field-0.0 = search rules in
    rw is (columns_refused (HoldsInRow c.args.row.now) c.args.conflicts c.in_ok-columns.columns
    (empty_holds c.in_ok-columns.columns c.in_ok-columns.ensures.empty) (Unit {0}) c.insert_row.new.columns c.in_err-insert_row.field-0.0
    c.in_err-insert_row.ensures)

pub returns : goal.returns
returns c =
    columns_of_empty (HoldsInRow c.args.row.now) c.args.conflicts c.in_ok-columns.columns
    (empty_holds c.in_ok-columns.columns c.in_ok-columns.ensures.empty) c.insert_row.new.columns c.in_ok-columns.ensures.count
    c.in_ok-insert_row.ensures
