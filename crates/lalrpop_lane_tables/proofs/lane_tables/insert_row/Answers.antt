use Rattle.std.proofs.Common.{rules, arith, ◌≡◌, ◌∷◌, [], Bool, Err, Ok, length}
use Rattle.lalrpop_lr1_theory.proofs.ListLemmas.{contains_here, contains_later}
use Rattle.lalrpop_lane_tables.specs.ColumnAnswers.{SomeSays}
use Rattle.lalrpop_lane_tables.specs.RowColumns.{EntrySays, HoldsInRow, IsRowBelow}
use Rattle.lalrpop_lane_tables.proofs.GatherLemmas.{gather_begins, gather_ends, gather_goes_on, gather_refused, gathers_alike, refused_alike}
use Rattle.lalrpop_lane_tables.proofs.InsertLemmas.{answer_of_insert}
use Rattle.lalrpop_lane_tables.proofs.RowLemmas.{entries_say}
use Rattle.lalrpop_lane_tables.proofs.lane_tables.insert_row.Goals as goal

pub loop-column-init : goal.loop-column-init
loop-column-init c =
    let all : c.into_iter-column-iterator.result ≡ c.args.row.now = search rules in
    let within : IsRowBelow (length c.args.columns.now) c.args.row.now = c.requires in
    record {
      gathering = rw all (gather_begins EntrySays c.args.row.now c.args.columns.now);
      within = rw all within;
    }

pub insert-requires : goal.insert-requires
insert-requires c =
    let left : c.loop-column.column-iterator ≡ (c.in-Some.column.now, c.in-Some.set.now) ∷ c.next.new.self = search rules in
    omega (
      arith,
      c.loop-column.invariant.within (c.in-Some.column.now, c.in-Some.set.now)
          (rw left (contains_here (c.in-Some.column.now, c.in-Some.set.now) c.next.new.self)),
      c.loop-column.invariant.gathering.count,
    )

pub loop-column-preserved : goal.loop-column-preserved
loop-column-preserved c =
    let left : c.loop-column.column-iterator ≡ (c.in-Some.column.now, c.in-Some.set.now) ∷ c.next.new.self = search rules in
    record {
      gathering = gather_goes_on EntrySays c.args.row.now c.args.columns.now c.loop-column.columns c.insert.new.self
          c.loop-column.column-iterator (c.in-Some.column.now, c.in-Some.set.now) c.next.new.self c.loop-column.invariant.gathering left
          (answer_of_insert (Ok c.in_ok-insert.field-0) c.in-Some.column.now.index c.in-Some.set.now c.loop-column.columns c.insert.new.self
          c.in_ok-insert.ensures.refused c.in_ok-insert.ensures.gathers);
      within = λ f m. c.loop-column.invariant.within f (rw left (contains_later (c.in-Some.column.now, c.in-Some.set.now) f c.next.new.self m));
    }

pub returns-in_err-insert : goal.returns-in_err-insert
returns-in_err-insert c =
    let left : c.loop-column.column-iterator ≡ (c.in-Some.column.now, c.in-Some.set.now) ∷ c.next.new.self = search rules in
    let is : c.from_residual.result ≡ Err c.in_err-insert.field-0.0 = search rules in
    rw is (refused_alike (Unit {0}) (Unit {0}) (SomeSays EntrySays c.args.row.now) (HoldsInRow c.args.row.now) c.args.columns.now
    c.insert.new.self c.insert.new.self c.in_err-insert.field-0.0 (entries_say c.args.row.now)
    (gather_refused EntrySays c.args.row.now c.args.columns.now Bool (Unit {0}) c.loop-column.columns c.insert.new.self c.insert.new.self
    c.loop-column.column-iterator (c.in-Some.column.now, c.in-Some.set.now) c.next.new.self c.in_err-insert.field-0.0
    c.loop-column.invariant.gathering left
    (answer_of_insert (Err c.in_err-insert.field-0.0) c.in-Some.column.now.index c.in-Some.set.now c.loop-column.columns c.insert.new.self
    c.in_err-insert.ensures.refused c.in_err-insert.ensures.gathers)))

pub returns : goal.returns
returns c =
    let left : c.loop-column.column-iterator ≡ [] = search rules in
    gathers_alike (SomeSays EntrySays c.args.row.now) (HoldsInRow c.args.row.now) c.args.columns.now c.loop-column.columns
    (entries_say c.args.row.now)
    (gather_ends EntrySays c.args.row.now c.args.columns.now c.loop-column.columns c.loop-column.column-iterator left
    c.loop-column.invariant.gathering)
