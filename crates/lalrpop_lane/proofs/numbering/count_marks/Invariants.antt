use Rattle.std.proofs.Common.{◌≡◌, ◌+◌, drop}
use Rattle.lalrpop_lane.specs.GotoNumbers.{count_marked}
use Rattle.lalrpop_lane.proofs.numbering.count_marks.Given as goal

abbrev pub invariant-loop-mark : goal.invariant-loop-mark
invariant-loop-mark l = l.count + count_marked (drop l.mark-index l.marks) ≡ count_marked l.marks
