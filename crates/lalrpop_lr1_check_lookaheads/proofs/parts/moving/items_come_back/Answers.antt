use Rattle.std.proofs.Common.{map, refl}
use Rattle.lalrpop_lr1_check_lookaheads.specs.ListedItems.{item_key}
use Rattle.lalrpop_lr1_check_lookaheads.specs.Moves.{DoesComeBack}
use Rattle.lalrpop_lr1_check_lookaheads.specs.SeenEdges.{noted_edge}
use Rattle.lalrpop_lr1_check_lookaheads.proofs.GainLemmas.{each_fails, each_more, each_passes, first_none}
use Rattle.lalrpop_lr1_check_lookaheads.proofs.parts.moving.items_come_back.Goals as goal

pub loop-item-init : goal.loop-item-init
loop-item-init c =
    first_none (λ _ item. DoesComeBack (map item_key c.args.listed.now.keys) (noted_edge c.args.edge.now) (item_key item)) c.args.items.now

pub returns-then-not-item_comes_back : goal.returns-then-not-item_comes_back
returns-then-not-item_comes_back c =
    let fails = each_fails (λ _ item. DoesComeBack (map item_key c.args.listed.now.keys) (noted_edge c.args.edge.now) (item_key item))
    c.args.items.now c.loop-item.item-index
    c.item-item.result c.item_comes_back.result c.loop-item-test.true c.item-item.is c.item_comes_back.ensures c.if-not-item_comes_back.true
    in (
      λ e. let w : ⊥ = cc in absurd w,
      λ h. fails.1 h.1,
    )

pub loop-item-preserved : goal.loop-item-preserved
loop-item-preserved c =
    each_more (λ _ item. DoesComeBack (map item_key c.args.listed.now.keys) (noted_edge c.args.edge.now) (item_key item)) c.args.items.now
    c.loop-item.item-index
    c.item-item.result c.item_comes_back.result c.loop-item-test.true c.item-item.is c.item_comes_back.ensures
    c.if-not-item_comes_back.false c.loop-item.invariant

pub returns : goal.returns
returns c =
    let all = (each_passes (λ _ item. DoesComeBack (map item_key c.args.listed.now.keys) (noted_edge c.args.edge.now) (item_key item))
    c.args.items.now c.loop-item.item-index c.loop-item-test.false c.loop-item.invariant).0 refl in
    (λ e. (c.has_some.ensures.0 e, all), λ h. c.has_some.ensures.1 h.0)
