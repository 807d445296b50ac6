use Rattle.std.proofs.Common.{◌∙◌, subst, sym}
use Rattle.lalrpop_lane_report.specs.GraphViews.{graph_view}
use Rattle.lalrpop_lane_report.specs.TraceGraphs.{IsWhole}
use Rattle.lalrpop_lane_report.specs.TraceNodes.{label_view, node_view}
use Rattle.lalrpop_lane_report.proofs.TraceGraphLemmas.{cut_graph, whole_edge}
use Rattle.lalrpop_lane_report.proofs.traces.trace_graph.TraceGraph.add_edge.Goals as goal

pub invariant_of-self : goal.invariant_of-self
invariant_of-self g c =
    whole_edge (graph_view c.self.inside.nodes.keys c.self.inside.edges.keys) (graph_view c.put_all.new.nodes.keys c.put_all.new.edges.keys)
    (node_view c.into.result) (node_view c.into-2.result) (label_view c.args.labels) c.self.invariant c.in-Ok.ensures.added

pub invariant_of-self-in-Err : goal.invariant_of-self-in-Err
invariant_of-self-in-Err g c =
    subst IsWhole
    (sym (cut_graph c.self.inside.nodes.keys c.put_all.new.nodes.keys c.truncate.new.self.keys c.self.inside.edges.keys
    c.put_all.new.edges.keys c.len-count.result c.truncate.ensures.keys c.len-count.ensures.len c.in-Err.ensures.nodes c.in-Err.ensures.edges))
    c.self.invariant

pub returns-in-Ok-clause-added : goal.returns-in-Ok-clause-added
returns-in-Ok-clause-added g c =
    rw (← c.self.view_is) (c.into.result, c.into-2.result, c.into.ensures, c.into-2.ensures, c.in-Ok.ensures.added)

pub returns-in-Err-clause-kept : goal.returns-in-Err-clause-kept
returns-in-Err-clause-kept g c =
    cut_graph c.self.inside.nodes.keys c.put_all.new.nodes.keys c.truncate.new.self.keys c.self.inside.edges.keys c.put_all.new.edges.keys
    c.len-count.result c.truncate.ensures.keys c.len-count.ensures.len c.in-Err.ensures.nodes c.in-Err.ensures.edges
    ∙ c.self.view_is
