use Rattle.std.proofs.Common.{map}
use Rattle.lalrpop_lr1_check_lookaheads.specs.ListedItems.{item_key}
use Rattle.lalrpop_lr1_check_lookaheads.specs.Reductions.{IsFinishedIn}
use Rattle.lalrpop_lr1_check_lookaheads.specs.ListTests.{HoldsAtEach, HoldsAtFirst}
use Rattle.lalrpop_lr1_check_lookaheads.proofs.parts.reducing.states_reduce_finished.Given as goal

abbrev pub invariant-loop-state : goal.invariant-loop-state
invariant-loop-state l =
    HoldsAtFirst (λ n state. HoldsAtEach (λ _ r. IsFinishedIn (map item_key l.listed.keys) n r.1.now) state.reductions) l.states
    l.state
