use Rattle.std.proofs.Common.{◌+◌, length}
use Rattle.lalrpop_sets.specs.RangeWalks.{ranges_to_come}
use Rattle.lalrpop_sets.proofs.CommonLemmas.{CommonTo}
use Rattle.lalrpop_sets.proofs.common.next_common.Given as goal

abbrev pub invariant-loop-range : goal.invariant-loop-range
invariant-loop-range l = CommonTo (ranges_to_come l.fn.one) (ranges_to_come l.fn.other) (ranges_to_come l.one) (ranges_to_come l.other)

abbrev pub decreases-loop-range : goal.decreases-loop-range
decreases-loop-range l = length (ranges_to_come l.one) + length (ranges_to_come l.other)
