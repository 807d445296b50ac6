use Rattle.std.proofs.Common.{◌≡◌, ◌+◌, length}
use Rattle.lalrpop_sets.specs.Ranges.{RangesFrom, most_ranges}
use Rattle.lalrpop_sets.proofs.ranges.room_for.Given as goal

abbrev pub invariant-loop-range : goal.invariant-loop-range
invariant-loop-range l = (l.room + most_ranges l.rest ≡ most_ranges l.ranges) × RangesFrom 2 0 l.rest

abbrev pub decreases-loop-range : goal.decreases-loop-range
decreases-loop-range l = length l.rest
