use Rattle.std.proofs.Common.{◌≡◌, ◌↔◌, true, map, subst}
use Rattle.lalrpop_lr1_check_lookaheads.specs.ListedItems.{item_key}
use Rattle.lalrpop_lr1_check_lookaheads.specs.Moves.{DoesMoveOn}
use Rattle.lalrpop_lr1_check_lookaheads.specs.ListTests.{HoldsAtEach}
use Rattle.lalrpop_lr1_check_lookaheads.proofs.GainLemmas.{each_fails, each_more, each_passes, first_none}
use Rattle.lalrpop_lr1_check_lookaheads.proofs.parts.moving.states_move_on.Goals as goal

pub loop-state-init : goal.loop-state-init
loop-state-init c =
    first_none (λ _ state. HoldsAtEach (λ _ item. DoesMoveOn (map item_key c.args.listed.now.keys) state item) state.items.vec)
    c.args.states.now

pub returns-then-not-items_move_on : goal.returns-then-not-items_move_on
returns-then-not-items_move_on c =
    let says = subst (λ l. (c.items_move_on.result ≡ true)
    ↔ HoldsAtEach (λ _ item. DoesMoveOn (map item_key c.args.listed.now.keys) c.state-item.result item) l)
    c.as_slice.ensures c.items_move_on.ensures in
    each_fails (λ _ state. HoldsAtEach (λ _ item. DoesMoveOn (map item_key c.args.listed.now.keys) state item) state.items.vec)
    c.args.states.now c.loop-state.state-index
    c.state-item.result c.items_move_on.result c.loop-state-test.true c.state-item.is says c.if-not-items_move_on.true

pub loop-state-preserved : goal.loop-state-preserved
loop-state-preserved c =
    let says = subst (λ l. (c.items_move_on.result ≡ true)
    ↔ HoldsAtEach (λ _ item. DoesMoveOn (map item_key c.args.listed.now.keys) c.state-item.result item) l)
    c.as_slice.ensures c.items_move_on.ensures in
    each_more (λ _ state. HoldsAtEach (λ _ item. DoesMoveOn (map item_key c.args.listed.now.keys) state item) state.items.vec)
    c.args.states.now c.loop-state.state-index
    c.state-item.result c.items_move_on.result c.loop-state-test.true c.state-item.is says c.if-not-items_move_on.false
    c.loop-state.invariant

pub returns : goal.returns
returns c =
    each_passes (λ _ state. HoldsAtEach (λ _ item. DoesMoveOn (map item_key c.args.listed.now.keys) state item) state.items.vec)
    c.args.states.now c.loop-state.state-index c.loop-state-test.false c.loop-state.invariant
