use Rattle.std.proofs.Common.{◌<◌, arith, length}
use Rattle.lalrpop_lr1_check.proofs.CloseLemmas.{queues_new}
use Rattle.lalrpop_lr1_check.proofs.closure.listed_marks.ListedMarks.mark.Goals as goal

pub returns-in_ok-push : goal.returns-in_ok-push
returns-in_ok-push c =
    let inside : c.args.number < length c.args.self.now.marks.items = omega (arith, c.if-number-len.true, c.len.ensures) in
    queues_new c.args.number c.args.self.now.marks.items c.set_mark.new.marks.items c.args.self.now.numbers.items
    c.push.new.self.items inside c.set_mark.ensures c.in_ok-push.ensures.items
