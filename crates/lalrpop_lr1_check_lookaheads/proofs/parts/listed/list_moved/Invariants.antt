use Rattle.std.proofs.Common.{map, take}
use Rattle.lalrpop_lr1_check_lookaheads.specs.ListTests.{GainsElements}
use Rattle.lalrpop_lr1_check_lookaheads.specs.ListedItems.{item_key, moved_keys}
use Rattle.lalrpop_lr1_check_lookaheads.proofs.parts.listed.list_moved.Given as goal

abbrev pub invariant-loop-item : goal.invariant-loop-item
invariant-loop-item l =
    GainsElements (map item_key l.fn.listed.keys) (map item_key l.listed.keys) (moved_keys l.state (take l.item-index l.items))
