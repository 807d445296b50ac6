use Rattle.std.proofs.Common.{◌+◌, length}
use Rattle.std.specs.Cmp.Lexicographic.{slice_cmp}
use Rattle.std.specs.Ordering.{nat_cmp}
use Rattle.lalrpop_sets.specs.RangeWalks.{numbers_to_come, ranges_to_come}
use Rattle.lalrpop_sets.proofs.OrderLemmas.{ComparedTo}
use Rattle.lalrpop_sets.proofs.order.compare.Given as goal

abbrev pub invariant-loop-range : goal.invariant-loop-range
invariant-loop-range l =
    ComparedTo (slice_cmp nat_cmp (numbers_to_come l.fn.one) (numbers_to_come l.fn.other)) (ranges_to_come l.one) (ranges_to_come l.other)

abbrev pub decreases-loop-range : goal.decreases-loop-range
decreases-loop-range l = length (ranges_to_come l.one) + length (ranges_to_come l.other)
