use Rattle.std.proofs.Common.{map}
use Rattle.lalrpop_lane_report.specs.contracts.traces.trace_graph.TraceGraphEdgePartialEq.TheImpl as edges
use Rattle.lalrpop_lane_report.specs.TraceNodes.{node_view, trace_edge_view}
use Rattle.lalrpop_lane_report.proofs.KeyLemmas.{adds_key, same_edges}
use Rattle.lalrpop_lane_report.proofs.traces.trace_graph.put_all.Goals as goal

pub returns-clause-added : goal.returns-clause-added
returns-clause-added c = record {
  between = map node_view c.put_node.new.nodes.keys;
  from = c.in_ok-from.from;
  to = c.in_ok-to.to;
  source = c.in_ok-from.ensures.added;
  target = c.in_ok-to.ensures.added;
  edge = adds_key trace_edge_view (edges.ghosts).eq same_edges c.args.edges.now.keys c.insert.new.self.keys _ c.in_ok-insert.ensures.keys;
}
