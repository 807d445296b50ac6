use Rattle.std.proofs.Common.{◌+◌, length}
use Rattle.lalrpop_sets.specs.RangeWalks.{ranges_to_come}
use Rattle.lalrpop_sets.proofs.JoinedLemmas.{JoinedTo}
use Rattle.lalrpop_sets.proofs.joined.joined_ranges.Given as goal

abbrev pub invariant-loop-range : goal.invariant-loop-range
invariant-loop-range l = JoinedTo (ranges_to_come l.fn.one) (ranges_to_come l.fn.other) l.list.items (ranges_to_come l.one) (ranges_to_come l.other) l.room

abbrev pub decreases-loop-range : goal.decreases-loop-range
decreases-loop-range l = length (ranges_to_come l.one) + length (ranges_to_come l.other)
