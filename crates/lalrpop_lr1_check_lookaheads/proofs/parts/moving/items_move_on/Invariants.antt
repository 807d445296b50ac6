use Rattle.std.proofs.Common.{map}
use Rattle.lalrpop_lr1_check_lookaheads.specs.ListedItems.{item_key}
use Rattle.lalrpop_lr1_check_lookaheads.specs.Moves.{DoesMoveOn}
use Rattle.lalrpop_lr1_check_lookaheads.specs.ListTests.{HoldsAtFirst}
use Rattle.lalrpop_lr1_check_lookaheads.proofs.parts.moving.items_move_on.Given as goal

abbrev pub invariant-loop-item : goal.invariant-loop-item
invariant-loop-item l =
    HoldsAtFirst (λ _ item. DoesMoveOn (map item_key l.listed.keys) l.state item)
    l.items l.item-index
