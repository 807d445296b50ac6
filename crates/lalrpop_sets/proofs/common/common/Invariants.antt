use Rattle.std.proofs.Common.{◌+◌, length}
use Rattle.lalrpop_sets.specs.RangeWalks.{ranges_to_come}
use Rattle.lalrpop_sets.proofs.CommonLemmas.{ListedTo}
use Rattle.lalrpop_sets.proofs.common.common.Given as goal

abbrev pub invariant-loop-range : goal.invariant-loop-range
invariant-loop-range l = ListedTo (ranges_to_come l.fn.one) (ranges_to_come l.fn.other) l.list.items (ranges_to_come l.one) (ranges_to_come l.other)

abbrev pub decreases-loop-range : goal.decreases-loop-range
decreases-loop-range l = length (ranges_to_come l.one) + length (ranges_to_come l.other)
