use Rattle.std.proofs.Common.{◌≡◌, length}
use Rattle.std.specs.Vec.Iter.{into_iter_items, into_iter_len}
use Rattle.lalrpop_lr1_build.proofs.MergeLemmas.{MergesSoFar}
use Rattle.lalrpop_lr1_build.proofs.states.merging.merge.Given as goal

abbrev pub invariant-loop-place : goal.invariant-loop-place
invariant-loop-place g l =
    MergesSoFar g.L.ClosureLookahead.marks g.L.KernelLookahead.in_order l.kernel l.fn.brought.items l.items l.rest
    (into_iter_items l.place-iterator)
    × (into_iter_len l.place-iterator ≡ length (into_iter_items l.place-iterator))
