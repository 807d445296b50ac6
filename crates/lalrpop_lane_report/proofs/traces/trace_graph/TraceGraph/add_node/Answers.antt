use Rattle.std.proofs.Common.{map, refl}
use Rattle.lalrpop_lane_report.specs.TraceNodes.{trace_edge_view, node_view}
use Rattle.lalrpop_lane_report.proofs.TraceGraphLemmas.{whole_node}
use Rattle.lalrpop_lane_report.proofs.traces.trace_graph.TraceGraph.add_node.Goals as goal

pub invariant_of-self-2 : goal.invariant_of-self-2
invariant_of-self-2 g c =
    whole_node (map node_view c.self.inside.nodes.keys) (map node_view c.put_node.new.nodes.keys) (map trace_edge_view c.self.inside.edges.keys)
    (node_view c.into.result) c.self.invariant c.in_ok-place.ensures.added.node

pub returns-clause-added : goal.returns-clause-added
returns-clause-added g c =
    rw (← c.self.view_is) (c.into.result, c.into.ensures, (c.in_ok-place.ensures.added, refl))
