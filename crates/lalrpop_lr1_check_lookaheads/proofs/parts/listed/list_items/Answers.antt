use Rattle.std.proofs.Common.{map, subst, sym, take}
use Rattle.std.proofs.lemmas.List.{take_all}
use Rattle.lalrpop_lr1_check_lookaheads.specs.ListTests.{GainsElements}
use Rattle.lalrpop_lr1_check_lookaheads.specs.ListedItems.{item_key, key_of_item}
use Rattle.lalrpop_lr1_check_lookaheads.proofs.GainLemmas.{gains_more, gains_none, mapped_taken}
use Rattle.lalrpop_lr1_check_lookaheads.proofs.parts.listed.list_items.Goals as goal

pub loop-item-init : goal.loop-item-init
loop-item-init c = gains_none (map item_key c.args.listed.now.keys)

pub loop-item-preserved : goal.loop-item-preserved
loop-item-preserved c =
    let i = c.loop-item.item-index in
    let n = c.args.state in
    let xs = c.args.items.now in
    subst (GainsElements (map item_key c.args.listed.now.keys) (map item_key c.list_item.new.listed.keys))
    (sym (mapped_taken (key_of_item n) xs i c.item-item.result c.loop-item-test.true c.item-item.is))
    (gains_more (map item_key c.args.listed.now.keys) (map item_key c.loop-item.listed.keys)
    (map item_key c.list_item.new.listed.keys) (map (key_of_item n) (take i xs)) _ c.loop-item.invariant
    c.in_ok-list_item.ensures)

pub returns : goal.returns
returns c =
    subst (λ xs. GainsElements (map item_key c.args.listed.now.keys) (map item_key c.loop-item.listed.keys)
    (map (key_of_item c.args.state) xs))
    (take_all c.loop-item.item-index c.args.items.now c.loop-item-test.false) c.loop-item.invariant
