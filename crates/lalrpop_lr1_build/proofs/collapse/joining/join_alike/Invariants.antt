use Rattle.std.proofs.Common.{Some, slice_get, ◌≡◌, List, ℕ}
use Rattle.lalrpop_lr1_core.specs.declared.state.State.{State}
use Rattle.lalrpop_lr1_build.proofs.ItemLemmas.{AreJoinedSoFar}
use Rattle.lalrpop_lr1_build.proofs.collapse.joining.join_alike.Given as goal

abbrev pub invariant-loop-other : goal.invariant-loop-other
invariant-loop-other l =
    (first : State (List ℕ))
    × (slice_get l.states l.place ≡ Some first)
    × AreJoinedSoFar l.states l.numbers l.number first l.other l.items
