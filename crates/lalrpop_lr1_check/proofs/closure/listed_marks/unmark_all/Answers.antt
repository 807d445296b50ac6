use Rattle.std.proofs.Common.{get_or, refl}
use Rattle.lalrpop_lr1_first.proofs.ListLemmas.{read_default}
use Rattle.lalrpop_lr1_check.proofs.LostMarkLemmas.{loses_more, loses_none, loses_whole}
use Rattle.lalrpop_lr1_check.proofs.closure.listed_marks.unmark_all.Goals as goal

pub loop-number-init : goal.loop-number-init
loop-number-init c = loses_none c.args.marks.now.items

pub loop-number-preserved : goal.loop-number-preserved
loop-number-preserved c =
    let xs = c.args.numbers.now in
    let i = c.loop-number.number-index in
    loses_more xs c.args.marks.now.items c.loop-number.marks.items c.unmark.new.marks.items i (get_or xs i 0) c.loop-number-test.true
    (read_default xs i 0 (get_or xs i 0) c.loop-number-test.true refl) c.loop-number.invariant c.unmark.ensures

pub returns : goal.returns
returns c =
    loses_whole c.args.numbers.now c.args.marks.now.items c.loop-number.marks.items c.loop-number.number-index
    c.loop-number-test.false c.loop-number.invariant
