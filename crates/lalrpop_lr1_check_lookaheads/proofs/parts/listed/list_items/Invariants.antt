use Rattle.std.proofs.Common.{map, take}
use Rattle.lalrpop_lr1_check_lookaheads.specs.ListTests.{GainsElements}
use Rattle.lalrpop_lr1_check_lookaheads.specs.ListedItems.{item_key, key_of_item}
use Rattle.lalrpop_lr1_check_lookaheads.proofs.parts.listed.list_items.Given as goal

abbrev pub invariant-loop-item : goal.invariant-loop-item
invariant-loop-item l =
    GainsElements (map item_key l.fn.listed.keys) (map item_key l.listed.keys)
    (map (key_of_item l.state) (take l.item-index l.items))
