use Rattle.std.proofs.Common.{map}
use Rattle.lalrpop_lr1_check_lookaheads.specs.ListedItems.{item_key}
use Rattle.lalrpop_lr1_check_lookaheads.specs.Reductions.{IsFinishedIn}
use Rattle.lalrpop_lr1_check_lookaheads.specs.ListTests.{HoldsAtFirst}
use Rattle.lalrpop_lr1_check_lookaheads.proofs.parts.reducing.are_finished.Given as goal

abbrev pub invariant-loop-reduction : goal.invariant-loop-reduction
invariant-loop-reduction l =
    HoldsAtFirst (λ _ r. IsFinishedIn (map item_key l.listed.keys) l.state r.1.now)
    l.reductions l.reduction-index
