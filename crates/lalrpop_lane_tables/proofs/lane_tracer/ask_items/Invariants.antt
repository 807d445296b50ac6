use Rattle.std.proofs.Common.{map, take}
use Rattle.lalrpop_lane_tables.specs.LaneTraces.{AsksItems}
use Rattle.lalrpop_lane_tables.specs.NodeKeys.{node_key}
use Rattle.lalrpop_lane_tables.proofs.lane_tracer.ask_items.Given as goal

abbrev pub invariant-loop-item : goal.invariant-loop-item
invariant-loop-item g l =
    AsksItems l.ground.grammar.now l.state l.name.0 (take l.item-index l.items) l.conflict.index (map node_key l.fn.visited.keys)
    (map node_key l.visited.keys) l.fn.table l.table
