use Rattle.std.proofs.Common.{take}
use Rattle.lalrpop_lr1_check.specs.MarkGains.{LosesMarks}
use Rattle.lalrpop_lr1_check.proofs.closure.listed_marks.unmark_all.Given as goal

abbrev pub invariant-loop-number : goal.invariant-loop-number
invariant-loop-number l = LosesMarks (take l.number-index l.numbers) l.fn.marks.items l.marks.items
