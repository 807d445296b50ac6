use Rattle.std.proofs.Common.{map}
use Rattle.lalrpop_lr1_check_lookaheads.specs.ListedItems.{item_key}
use Rattle.lalrpop_lr1_check_lookaheads.specs.Moves.{DoesMoveOn}
use Rattle.lalrpop_lr1_check_lookaheads.proofs.GainLemmas.{each_fails, each_more, each_passes, first_none}
use Rattle.lalrpop_lr1_check_lookaheads.proofs.parts.moving.items_move_on.Goals as goal

pub loop-item-init : goal.loop-item-init
loop-item-init c = first_none (λ _ item. DoesMoveOn (map item_key c.args.listed.now.keys) c.args.state.now item) c.args.items.now

pub returns-then-not-item_moves_on : goal.returns-then-not-item_moves_on
returns-then-not-item_moves_on c =
    each_fails (λ _ item. DoesMoveOn (map item_key c.args.listed.now.keys) c.args.state.now item) c.args.items.now c.loop-item.item-index
    c.item-item.result c.item_moves_on.result c.loop-item-test.true c.item-item.is c.item_moves_on.ensures c.if-not-item_moves_on.true

pub loop-item-preserved : goal.loop-item-preserved
loop-item-preserved c =
    each_more (λ _ item. DoesMoveOn (map item_key c.args.listed.now.keys) c.args.state.now item) c.args.items.now c.loop-item.item-index
    c.item-item.result c.item_moves_on.result c.loop-item-test.true c.item-item.is c.item_moves_on.ensures c.if-not-item_moves_on.false
    c.loop-item.invariant

pub returns : goal.returns
returns c =
    each_passes (λ _ item. DoesMoveOn (map item_key c.args.listed.now.keys) c.args.state.now item) c.args.items.now c.loop-item.item-index
    c.loop-item-test.false c.loop-item.invariant
