use Rattle.std.proofs.Common.{◌≡◌, map, take}
use Rattle.lalrpop_lane.specs.LaneStates.{item_before}
use Rattle.lalrpop_lane.proofs.lr0.put_items_before.Given as goal

abbrev pub invariant-loop-item : goal.invariant-loop-item
invariant-loop-item l = l.new ≡ map (item_before l.set) (take l.item-index l.items)
