use Rattle.std.proofs.Common.{rules, arith, ◌≡◌, ◌∷◌, [], Err, length}
use Rattle.lalrpop_lr1_theory.proofs.ListLemmas.{contains_here, contains_later}
use Rattle.lalrpop_lane_tables.specs.ColumnAnswers.{SomeSays}
use Rattle.lalrpop_lane_tables.specs.RowColumns.{AreRowsBelow}
use Rattle.lalrpop_lane_tables.specs.TableViews.{SomeRowHolds, rows_view}
use Rattle.lalrpop_lane_tables.proofs.GatherLemmas.{gather_begins, gather_ends, gather_goes_on, gather_refused, gathers_alike, refused_alike}
use Rattle.lalrpop_lane_tables.proofs.RowLemmas.{RowSays, rows_say}
use Rattle.lalrpop_lane_tables.proofs.lane_tables.insert_rows.Goals as goal

pub loop-state-init : goal.loop-state-init
loop-state-init c =
    let all : c.into_iter-state-iterator.result ≡ c.args.rows.now = search rules in
    let within : AreRowsBelow (length c.args.columns.now) c.args.rows.now = c.requires in
    record {
      gathering = rw all (gather_begins RowSays c.args.rows.now c.args.columns.now);
      within = rw all within;
    }

pub insert_row-requires : goal.insert_row-requires
insert_row-requires c =
    let left : c.loop-state.state-iterator ≡ (c.in-Some.state.now, c.in-Some.row.now) ∷ c.next.new.self = search rules in
    λ f m. omega (
      arith,
      c.loop-state.invariant.within (c.in-Some.state.now, c.in-Some.row.now)
          (rw left (contains_here (c.in-Some.state.now, c.in-Some.row.now) c.next.new.self)) f m,
      c.loop-state.invariant.gathering.count,
    )

pub loop-state-preserved : goal.loop-state-preserved
loop-state-preserved c =
    let left : c.loop-state.state-iterator ≡ (c.in-Some.state.now, c.in-Some.row.now) ∷ c.next.new.self = search rules in
    record {
      gathering = gather_goes_on RowSays c.args.rows.now c.args.columns.now c.loop-state.columns c.insert_row.new.columns
          c.loop-state.state-iterator (c.in-Some.state.now, c.in-Some.row.now) c.next.new.self c.loop-state.invariant.gathering left
          c.in_ok-insert_row.ensures;
      within = λ f m. c.loop-state.invariant.within f (rw left (contains_later (c.in-Some.state.now, c.in-Some.row.now) f c.next.new.self m));
    }

pub returns-in_err-insert_row : goal.returns-in_err-insert_row
returns-in_err-insert_row c =
    let left : c.loop-state.state-iterator ≡ (c.in-Some.state.now, c.in-Some.row.now) ∷ c.next.new.self = search rules in
    let is : c.from_residual.result ≡ Err c.in_err-insert_row.field-0.0 = search rules in
    rw is (refused_alike (Unit {0}) (Unit {0}) (SomeSays RowSays c.args.rows.now) (SomeRowHolds (rows_view c.args.rows.now))
    c.args.columns.now c.insert_row.new.columns c.insert_row.new.columns c.in_err-insert_row.field-0.0 (rows_say c.args.rows.now)
    (gather_refused RowSays c.args.rows.now c.args.columns.now (Unit {0}) (Unit {0}) c.loop-state.columns c.insert_row.new.columns
    c.insert_row.new.columns c.loop-state.state-iterator (c.in-Some.state.now, c.in-Some.row.now) c.next.new.self
    c.in_err-insert_row.field-0.0 c.loop-state.invariant.gathering left c.in_err-insert_row.ensures))

pub returns : goal.returns
returns c =
    let left : c.loop-state.state-iterator ≡ [] = search rules in
    gathers_alike (SomeSays RowSays c.args.rows.now) (SomeRowHolds (rows_view c.args.rows.now)) c.args.columns.now c.loop-state.columns
    (rows_say c.args.rows.now)
    (gather_ends RowSays c.args.rows.now c.args.columns.now c.loop-state.columns c.loop-state.state-iterator left
    c.loop-state.invariant.gathering)
