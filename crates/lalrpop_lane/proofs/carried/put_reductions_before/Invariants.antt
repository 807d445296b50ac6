use Rattle.std.proofs.Common.{◌≡◌, List, Some, slice_get, ℕ}
use Rattle.lalrpop_lr1_check_lookaheads.proofs.PairLemmas.{ArePaired}
use Rattle.lalrpop_lane.proofs.carried.put_reductions_before.Given as goal

abbrev pub invariant-loop-reduction : goal.invariant-loop-reduction
invariant-loop-reduction l =
    ArePaired (λ k r q. (set : List ℕ) → slice_get l.sets k ≡ Some set → q ≡ (set, r.1)) l.reductions l.new l.reduction-index
