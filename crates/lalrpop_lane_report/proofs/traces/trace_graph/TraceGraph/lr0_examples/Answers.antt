use Rattle.std.proofs.Common.{◌≡◌, ◌∙◌, [], ap, false, length, refl, rules, subst, sym, true, Contains, slice_get}
use Rattle.lalrpop_lane_report.specs.contracts.traces.trace_graph.TraceGraphNodePartialEq.TheImpl as nodes
use Rattle.lalrpop_lane_report.specs.declared.traces.trace_graph.TraceGraphNode.TheVariants.{Item}
use Rattle.lalrpop_lane_report.specs.GraphViews.{graph_view}
use Rattle.lalrpop_lane_report.specs.TraceGraphs.{GraphView, IsWhole}
use Rattle.lalrpop_lane_report.specs.TraceNodes.{graph_node_of, node_view}
use Rattle.lalrpop_lane_report.proofs.KeyLemmas.{place_found, same_nodes, there_any}
use Rattle.lalrpop_lane_report.proofs.TurnLemmas.{begin_paths, begin_walk, same_graph}
use Rattle.lalrpop_lane_report.proofs.traces.trace_graph.TraceGraph.lr0_examples.Goals as goal

pub unreachable-requires : goal.unreachable-requires
unreachable-requires c =
    let there = subst (λ (g : GraphView). Contains g.nodes (graph_node_of c.args.lr0_item)) (sym c.self.view_is) c.requires in
    let any = there_any node_view (nodes.ghosts).eq same_nodes c.self.inside.nodes.keys (Item c.args.lr0_item) there in
    let z : false ≡ true = c.in_default.ensures.found ∙ any in
    cc

pub find_path-requires : goal.find_path-requires
find_path-requires c =
    let same : graph_view c.as_slice-nodes.result.now c.as_slice-edges.result.now ≡ c.args.self.now =
    same_graph c.as_slice-nodes.result.now c.self.inside.nodes.keys c.as_slice-edges.result.now c.self.inside.edges.keys
    c.as_slice-nodes.ensures.keys c.as_slice-edges.ensures.keys ∙ c.self.view_is in
    let whole : IsWhole (graph_view c.as_slice-nodes.result.now c.as_slice-edges.result.now) =
    subst IsWhole (c.self.view_is ∙ sym same) c.self.invariant in
    let none : c.new-steps.result.items ≡ [] = search rules in
    record {
      whole = whole;
      walk = begin_walk c.as_slice-nodes.result.now c.as_slice-edges.result.now whole (length c.as_slice-edges.result.now) c.in-Some.node refl
          c.new-steps.result.items none;
    }

pub returns-clause-paths : goal.returns-clause-paths
returns-clause-paths c =
    let same : graph_view c.as_slice-nodes.result.now c.as_slice-edges.result.now ≡ c.args.self.now =
    same_graph c.as_slice-nodes.result.now c.self.inside.nodes.keys c.as_slice-edges.result.now c.self.inside.edges.keys
    c.as_slice-nodes.ensures.keys c.as_slice-edges.ensures.keys ∙ c.self.view_is in
    let none : c.new-steps.result.items ≡ [] = search rules in
    begin_paths c.args.self.now c.as_slice-nodes.result.now c.as_slice-edges.result.now same (subst IsWhole c.self.view_is c.self.invariant)
    c.in-Some.node (graph_node_of c.args.lr0_item)
    (ap (λ (g : GraphView). slice_get g.nodes c.in-Some.node) (sym c.self.view_is)
    ∙ place_found c.self.inside.nodes.keys (Item c.args.lr0_item) c.in-Some.node (sym c.in-Some.ensures.index))
    (length c.as_slice-edges.result.now) refl c.new-steps.result.items c.find_path.new.steps.items none c.in_ok-find_path.ensures.left

pub returns-clause-graph : goal.returns-clause-graph
returns-clause-graph c =
    same_graph c.as_slice-nodes.result.now c.self.inside.nodes.keys c.as_slice-edges.result.now c.self.inside.edges.keys
    c.as_slice-nodes.ensures.keys c.as_slice-edges.ensures.keys ∙ c.self.view_is

pub invariant_of-result : goal.invariant_of-result
invariant_of-result c = record {
  whole = subst IsWhole (sym (same_graph c.as_slice-nodes.result.now c.self.inside.nodes.keys c.as_slice-edges.result.now
      c.self.inside.edges.keys c.as_slice-nodes.ensures.keys c.as_slice-edges.ensures.keys)) c.self.invariant;
  walked = c.in_ok-find_path.ensures.walked;
}
