use Rattle.std.proofs.Common.{◌+◌, length}
use Rattle.lalrpop_sets.specs.RangeWalks.{ranges_to_come}
use Rattle.lalrpop_sets.proofs.JoinedLemmas.{JoiningTo}
use Rattle.lalrpop_sets.proofs.joined.next_joined.Given as goal

abbrev pub invariant-loop-next : goal.invariant-loop-next
invariant-loop-next l = JoiningTo (ranges_to_come l.fn.one) (ranges_to_come l.fn.other) l.range (ranges_to_come l.one) (ranges_to_come l.other)

abbrev pub decreases-loop-next : goal.decreases-loop-next
decreases-loop-next l = length (ranges_to_come l.one) + length (ranges_to_come l.other)
