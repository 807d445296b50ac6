-- What is seen of a graph of traces as the program has it.
use Rattle.std.specs.Prelude.{List, map}
use Rattle.lalrpop_lane_report.specs.declared.traces.trace_graph.TraceGraphEdge.{TraceGraphEdge}
use Rattle.lalrpop_lane_report.specs.declared.traces.trace_graph.TraceGraphNode.{TraceGraphNode}
use Rattle.lalrpop_lane_report.specs.TraceGraphs.{GraphView}
use Rattle.lalrpop_lane_report.specs.TraceNodes.{trace_edge_view, node_view}

abbrev pub graph_view : List TraceGraphNode → List TraceGraphEdge → GraphView
graph_view nodes edges = record { nodes = map node_view nodes; edges = map trace_edge_view edges }
