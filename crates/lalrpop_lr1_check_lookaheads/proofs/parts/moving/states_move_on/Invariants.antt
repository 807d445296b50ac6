use Rattle.std.proofs.Common.{map}
use Rattle.lalrpop_lr1_check_lookaheads.specs.ListedItems.{item_key}
use Rattle.lalrpop_lr1_check_lookaheads.specs.Moves.{DoesMoveOn}
use Rattle.lalrpop_lr1_check_lookaheads.specs.ListTests.{HoldsAtEach, HoldsAtFirst}
use Rattle.lalrpop_lr1_check_lookaheads.proofs.parts.moving.states_move_on.Given as goal

abbrev pub invariant-loop-state : goal.invariant-loop-state
invariant-loop-state l =
    HoldsAtFirst (λ _ state. HoldsAtEach (λ _ item. DoesMoveOn (map item_key l.listed.keys) state item) state.items.vec)
    l.states l.state-index
