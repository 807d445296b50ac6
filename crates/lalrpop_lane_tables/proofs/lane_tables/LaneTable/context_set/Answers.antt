use Rattle.std.proofs.Common.{subst, sym}
use Rattle.lalrpop_lane_theory.specs.Columns.{TableHolds}
use Rattle.lalrpop_lane_tables.specs.ColumnAnswers.{AreColumns, ColumnsAnswer, HasToken}
use Rattle.lalrpop_lane_tables.specs.ReachedStates.{index_cmp}
use Rattle.lalrpop_lane_tables.specs.RowColumns.{HoldsInRow}
use Rattle.lalrpop_lane_tables.specs.TableViews.{TableView, noted_view, rows_view}
use Rattle.lalrpop_lane_tables.proofs.KeyLemmas.{index_exact}
use Rattle.lalrpop_lane_tables.proofs.PutLemmas.{found_there}
use Rattle.lalrpop_lane_tables.proofs.RowLemmas.{answer_alike, empty_columns, index_self, no_row, row_alone, whole_within}
use Rattle.lalrpop_lane_tables.proofs.lane_tables.LaneTable.context_set.Goals as goal

pub columns_of_row-requires : goal.columns_of_row-requires
columns_of_row-requires c =
    whole_within c.self.inside.conflicts c.self.inside.lookaheads (noted_view c.self.inside.successors) c.self.invariant.whole
    (c.args.state, c.in-Some.row.now)
    (found_there index_cmp index_exact index_self c.self.inside.lookaheads c.args.state c.in-Some.row.now (sym c.in-Some.ensures))

pub returns-in-Some : goal.returns-in-Some
returns-in-Some c =
    let there = found_there index_cmp index_exact index_self c.self.inside.lookaheads c.args.state c.in-Some.row.now (sym c.in-Some.ensures) in
    subst (λ (t : TableView). ColumnsAnswer t.conflicts (TableHolds HasToken t.rows c.args.state.0) c.columns_of_row.result) c.self.view_is
    (answer_alike c.self.inside.conflicts (HoldsInRow c.in-Some.row.now) (TableHolds HasToken (rows_view c.self.inside.lookaheads) c.args.state.0)
    c.columns_of_row.result (row_alone c.self.inside.lookaheads c.self.invariant.rows_ascend c.args.state c.in-Some.row.now there)
    c.columns_of_row.ensures)

pub returns-in_ok-new-in-None : goal.returns-in_ok-new-in-None
returns-in_ok-new-in-None c =
    subst (λ (t : TableView). AreColumns t.conflicts (TableHolds HasToken t.rows c.args.state.0) c.in_ok-new-in-None.field-0) c.self.view_is
    (empty_columns c.self.inside.conflicts (TableHolds HasToken (rows_view c.self.inside.lookaheads) c.args.state.0)
    c.in_ok-new-in-None.field-0 c.in_ok-new-in-None.ensures.count c.in_ok-new-in-None.ensures.empty
    (no_row c.self.inside.lookaheads c.self.invariant.rows_ascend c.args.state (sym c.in-None.ensures)))
