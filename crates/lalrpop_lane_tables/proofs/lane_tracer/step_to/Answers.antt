use Rattle.std.proofs.Common.{◌≡◌, OnOk, map, subst}
use Rattle.lalrpop_lane_tables.specs.NodeKeys.{node_key}
use Rattle.lalrpop_lane_tables.specs.TraceNodes.{ExtendsNodes, TraceNode}
use Rattle.lalrpop_lane_tables.proofs.lane_tracer.step_to.Goals as goal

pub returns-clause-nodes : goal.returns-clause-nodes
returns-clause-nodes c =
    subst (λ (node : TraceNode). OnOk c.visit.result
    (ExtendsNodes (map node_key c.args.visited.now.keys) (map node_key c.visit.new.visited.keys) (λ k. k ≡ node))) c.node_of.ensures
    c.visit.ensures
