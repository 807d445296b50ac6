use Rattle.std.proofs.Common.{◌≡◌, length}
use Rattle.std.specs.Hash as fed
use Rattle.std.specs.Prelude.{fold}
use Rattle.lalrpop_sets.specs.RangeWalks.{numbers_to_come}
use Rattle.lalrpop_sets.proofs.OrderLemmas.{feeds}
use Rattle.lalrpop_sets.proofs.order.hash_numbers.Given as goal

abbrev pub invariant-loop-number : goal.invariant-loop-number
invariant-loop-number g l =
    feeds g.H.Hasher.write (numbers_to_come l.left) l.state ≡ fold g.H.Hasher.write l.fn.state (fed.slice fed.usize (numbers_to_come l.fn.walk))

abbrev pub decreases-loop-number : goal.decreases-loop-number
decreases-loop-number g l = length (numbers_to_come l.left)
