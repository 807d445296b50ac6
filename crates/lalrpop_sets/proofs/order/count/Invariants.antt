use Rattle.std.proofs.Common.{length}
use Rattle.lalrpop_sets.specs.RangeWalks.{numbers_to_come, ranges_to_come}
use Rattle.lalrpop_sets.proofs.OrderLemmas.{CountedTo}
use Rattle.lalrpop_sets.proofs.order.count.Given as goal

abbrev pub invariant-loop-range : goal.invariant-loop-range
invariant-loop-range l = CountedTo (length (numbers_to_come l.fn.walk)) (ranges_to_come l.walk) l.counted

abbrev pub decreases-loop-range : goal.decreases-loop-range
decreases-loop-range l = length (ranges_to_come l.walk)
