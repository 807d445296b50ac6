use Rattle.std.proofs.Common.{◌+◌, length}
use Rattle.lalrpop_sets.specs.RangeWalks.{numbers_to_come, ranges_to_come}
use Rattle.lalrpop_sets.proofs.CommonLemmas.{MissingTo}
use Rattle.lalrpop_sets.proofs.common.missing.Given as goal

abbrev pub invariant-loop-range : goal.invariant-loop-range
invariant-loop-range l = MissingTo (ranges_to_come l.fn.one) (ranges_to_come l.fn.other) (ranges_to_come l.one) (ranges_to_come l.other)

abbrev pub decreases-loop-range : goal.decreases-loop-range
decreases-loop-range l = length (ranges_to_come l.one) + length (numbers_to_come l.other)
