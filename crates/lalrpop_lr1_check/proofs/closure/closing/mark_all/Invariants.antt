use Rattle.std.proofs.Common.{take}
use Rattle.lalrpop_lr1_check.specs.BeginLists.{Queues}
use Rattle.lalrpop_lr1_check.proofs.closure.closing.mark_all.Given as goal

abbrev pub invariant-loop-number : goal.invariant-loop-number
invariant-loop-number l =
    Queues (take l.number-index l.numbers) l.fn.marks.marks.items l.marks.marks.items l.fn.marks.numbers.items l.marks.numbers.items
