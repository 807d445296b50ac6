use Rattle.std.proofs.Common.{◌≡◌, ◌-◌, ◌^◌, ℕ, map}
use Rattle.lalrpop_lr1_theory.specs.Productions.{Production}
use Rattle.lalrpop_lr1_theory.specs.States.{LookaheadSet}
use Rattle.lalrpop_lane_tables.specs.LaneTraces.{IsTracing}
use Rattle.lalrpop_lane_tables.specs.NodeKeys.{node_key}
use Rattle.lalrpop_lane_tables.specs.TableViews.{TableView}
use Rattle.lalrpop_lane_tables.proofs.lane_tracer.visit_nodes.Given as goal

abbrev pub invariant-loop-node : goal.invariant-loop-node
invariant-loop-node g l =
    (l.table.conflicts ≡ l.fn.table.conflicts)
    × ((look : g.row.L.Denot → LookaheadSet) (n : ℕ) (p : Production) (before : TableView) →
    IsTracing look l.ground.grammar.now l.ground.start.0 l.ground.states.now n p l.conflict.index (map node_key l.fn.visited.keys) 0 before
    l.fn.table →
    IsTracing look l.ground.grammar.now l.ground.start.0 l.ground.states.now n p l.conflict.index (map node_key l.visited.keys) l.number
    before l.table)

abbrev pub decreases-loop-node : goal.decreases-loop-node
decreases-loop-node g l = 2 ^ 63 - l.number
