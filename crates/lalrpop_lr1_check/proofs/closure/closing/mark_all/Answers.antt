use Rattle.std.proofs.Common.{get_or, refl}
use Rattle.lalrpop_lr1_first.proofs.ListLemmas.{read_default}
use Rattle.lalrpop_lr1_check.proofs.CloseLemmas.{queues_more}
use Rattle.lalrpop_lr1_check.proofs.closure.closing.mark_all.Goals as goal

pub loop-number-preserved : goal.loop-number-preserved
loop-number-preserved c =
    let xs = c.args.numbers.now in
    let i = c.loop-number.number-index in
    let old = c.args.marks.now in
    let now = c.loop-number.marks in
    let new = c.mark.new.self in
    queues_more xs old.marks.items now.marks.items new.marks.items old.numbers.items now.numbers.items new.numbers.items
    i (get_or xs i 0) c.loop-number-test.true
    (read_default xs i 0 (get_or xs i 0) c.loop-number-test.true refl) c.loop-number.invariant c.in_ok-mark.ensures
