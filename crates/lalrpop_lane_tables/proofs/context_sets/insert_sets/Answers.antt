use Rattle.std.proofs.Common.{rules, arith, ◌≡◌, ◌+◌, Bool, Err, Ok, Some, slice_get}
use Rattle.lalrpop_lane_theory.specs.Columns.{InColumn}
use Rattle.lalrpop_lane_tables.specs.ColumnAnswers.{HasToken, IsColumnOfSet}
use Rattle.lalrpop_lane_tables.proofs.GatherLemmas.{gathers_alike}
use Rattle.lalrpop_lane_tables.proofs.InsertLemmas.{ColumnsBelow, answer_of_insert, column_more, column_refused, columns_all, gathers_both, gathers_none}
use Rattle.lalrpop_lane_tables.proofs.InsertLemmas.{get_of}
use Rattle.lalrpop_lane_tables.proofs.context_sets.insert_sets.Goals as goal

pub loop-index-init : goal.loop-index-init
loop-index-init c = gathers_none (ColumnsBelow c.args.sets.now 0) c.args.columns.now (λ d x h. omega (arith, h.0))

pub loop-index-preserved : goal.loop-index-preserved
loop-index-preserved c =
    let i = c.loop-index.index in
    let s = c.index-sets-index.result in
    let at : slice_get c.args.sets.now i ≡ Some s = get_of c.args.sets.now i s (omega arith) c.index-sets-index.is in
    gathers_both (ColumnsBelow c.args.sets.now i) (IsColumnOfSet i s) (ColumnsBelow c.args.sets.now (i + 1)) c.args.columns.now
    c.loop-index.columns c.insert.new.self (column_more c.args.sets.now i s at) c.loop-index.invariant
    (answer_of_insert (Ok c.in_ok-insert.field-0) i s c.loop-index.columns c.insert.new.self c.in_ok-insert.ensures.refused
    c.in_ok-insert.ensures.gathers)

pub returns-in_err-insert : goal.returns-in_err-insert
returns-in_err-insert c =
    let i = c.loop-index.index in
    let s = c.index-sets-index.result in
    let at : slice_get c.args.sets.now i ≡ Some s = get_of c.args.sets.now i s (omega arith) c.index-sets-index.is in
    let is : c.from_residual.result ≡ Err c.in_err-insert.field-0.0 = search rules in
    rw is (column_refused Bool (Unit {0}) c.args.sets.now i s c.args.columns.now c.loop-index.columns c.insert.new.self c.insert.new.self
    c.in_err-insert.field-0.0 at c.loop-index.invariant
    (answer_of_insert (Err c.in_err-insert.field-0.0) i s c.loop-index.columns c.insert.new.self c.in_err-insert.ensures.refused
    c.in_err-insert.ensures.gathers))

pub returns : goal.returns
returns c =
    gathers_alike (ColumnsBelow c.args.sets.now c.loop-index.index) (InColumn HasToken c.args.sets.now) c.args.columns.now
    c.loop-index.columns (columns_all c.args.sets.now c.loop-index.index c.loop-index-test.false) c.loop-index.invariant
