use Rattle.std.proofs.Common.{◌+◌, length}
use Rattle.lalrpop_sets.specs.Ranges.{RangesFrom}
use Rattle.lalrpop_sets.specs.RangeWalks.{ranges_to_come}
use Rattle.lalrpop_sets.proofs.joined.joined_room.Given as goal

abbrev pub invariant-loop-range : goal.invariant-loop-range
invariant-loop-range l = record {
  one : RangesFrom 1 0 (ranges_to_come l.one);
  other : RangesFrom 1 0 (ranges_to_come l.other);
}

abbrev pub decreases-loop-range : goal.decreases-loop-range
decreases-loop-range l = length (ranges_to_come l.one) + length (ranges_to_come l.other)
