use Rattle.std.proofs.Common.{rules, ◌≡◌, ◌∷◌, List, [], Err, subst}
use Rattle.lalrpop_lr1_theory.proofs.ListLemmas.{contains_here, contains_later}
use Rattle.lalrpop_lr1_core.specs.declared.state_index.StateIndex.{StateIndex}
use Rattle.lalrpop_lane_tables.specs.RowColumns.{AreColumnsOfRows, AreRowsBelow}
use Rattle.lalrpop_lane_tables.specs.TableViews.{TokenRow}
use Rattle.lalrpop_lane_tables.proofs.RowLemmas.{row_refused, rows_begin, rows_go_on}
use Rattle.lalrpop_lane_tables.proofs.lane_tables.add_rows.Goals as goal

pub loop-state-init : goal.loop-state-init
loop-state-init c =
    let all : c.into_iter-state-iterator.result ≡ c.args.lookaheads.now = search rules in
    let none : c.args.rows.now ≡ [] = c.requires.empty in
    let within : AreRowsBelow c.args.conflicts c.args.lookaheads.now = c.requires.within in
    record {
      made = rw (all, none) (rows_begin c.args.conflicts c.args.lookaheads.now);
      within = rw all within;
      there = rw all (λ e h. h);
    }

pub columns_of_state-requires : goal.columns_of_state-requires
columns_of_state-requires c =
    let left : c.loop-state.state-iterator ≡ (c.in-Some.state.now, c.in-Some.row.now) ∷ c.next.new.self = search rules in
    c.loop-state.invariant.within (c.in-Some.state.now, c.in-Some.row.now)
    (rw left (contains_here (c.in-Some.state.now, c.in-Some.row.now) c.next.new.self))

pub loop-state-preserved : goal.loop-state-preserved
loop-state-preserved c =
    let left : c.loop-state.state-iterator ≡ (c.in-Some.state.now, c.in-Some.row.now) ∷ c.next.new.self = search rules in
    record {
      made = rows_go_on c.args.conflicts c.args.lookaheads.now c.loop-state.state-iterator c.in-Some.state.now c.in-Some.row.now
          c.next.new.self c.loop-state.rows c.insert.new.self c.in_ok-columns.columns left
          (c.loop-state.invariant.there (c.in-Some.state.now, c.in-Some.row.now)
          (rw left (contains_here (c.in-Some.state.now, c.in-Some.row.now) c.next.new.self)))
          c.in_ok-columns.ensures c.in_ok-insert.ensures.ok c.loop-state.invariant.made;
      within = λ f m. c.loop-state.invariant.within f (rw left (contains_later (c.in-Some.state.now, c.in-Some.row.now) f c.next.new.self m));
      there = λ f m. c.loop-state.invariant.there f (rw left (contains_later (c.in-Some.state.now, c.in-Some.row.now) f c.next.new.self m));
    }

pub returns-in_err-columns : goal.returns-in_err-columns
returns-in_err-columns c =
    let left : c.loop-state.state-iterator ≡ (c.in-Some.state.now, c.in-Some.row.now) ∷ c.next.new.self = search rules in
    let is : c.from_residual.result ≡ Err c.in_err-columns.field-0.0 = search rules in
    rw is (row_refused c.args.conflicts c.args.lookaheads.now (Unit {0}) c.in-Some.state.now c.in-Some.row.now c.loop-state.rows
    c.in_err-columns.field-0.0
    (c.loop-state.invariant.there (c.in-Some.state.now, c.in-Some.row.now)
    (rw left (contains_here (c.in-Some.state.now, c.in-Some.row.now) c.next.new.self)))
    c.in_err-columns.ensures)

pub returns : goal.returns
returns c =
    let left : c.loop-state.state-iterator ≡ [] = search rules in
    subst (λ (l : List (StateIndex × TokenRow)). AreColumnsOfRows c.args.conflicts c.args.lookaheads.now l c.loop-state.rows) left c.loop-state.invariant.made
