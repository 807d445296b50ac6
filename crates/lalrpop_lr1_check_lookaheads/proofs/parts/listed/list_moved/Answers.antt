use Rattle.std.proofs.Common.{[], ◌∷◌, map, subst, sym, take}
use Rattle.std.proofs.lemmas.List.{take_all}
use Rattle.lalrpop_lr1_check_lookaheads.specs.ListTests.{GainsElements}
use Rattle.lalrpop_lr1_check_lookaheads.specs.ListedItems.{item_key, moved_keys}
use Rattle.lalrpop_lr1_check_lookaheads.proofs.GainLemmas.{gains_more, gains_none}
use Rattle.lalrpop_lr1_check_lookaheads.proofs.ListedLemmas.{moved_taken}
use Rattle.lalrpop_lr1_check_lookaheads.proofs.parts.listed.list_moved.Goals as goal

pub loop-item-init : goal.loop-item-init
loop-item-init c = gains_none (map item_key c.args.listed.now.keys)

pub loop-item-preserved : goal.loop-item-preserved
loop-item-preserved c =
    let i = c.loop-item.item-index in
    let n = c.args.state in
    let xs = c.args.items.now in
    subst (GainsElements (map item_key c.args.listed.now.keys) (map item_key c.list_if_moved.new.listed.keys))
    (sym (moved_taken n xs i c.item-item.result c.loop-item-test.true c.item-item.is))
    (gains_more (map item_key c.args.listed.now.keys) (map item_key c.loop-item.listed.keys)
    (map item_key c.list_if_moved.new.listed.keys) (moved_keys n (take i xs)) (moved_keys n (c.item-item.result ∷ []))
    c.loop-item.invariant c.in_ok-list_if_moved.ensures)

pub returns : goal.returns
returns c =
    subst (λ xs. GainsElements (map item_key c.args.listed.now.keys) (map item_key c.loop-item.listed.keys)
    (moved_keys c.args.state xs))
    (take_all c.loop-item.item-index c.args.items.now c.loop-item-test.false) c.loop-item.invariant
