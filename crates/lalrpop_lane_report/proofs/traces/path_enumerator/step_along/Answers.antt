use Rattle.std.proofs.Common.{◌≡◌, ◌∙◌, List, ap, length, refl, sym, true, false, slice_get, map}
use Rattle.std.proofs.lemmas.Option.{slice_get-map}
use Rattle.lalrpop_lane_report.specs.declared.traces.path_enumerator.TakenEdge.{TakenEdge}
use Rattle.lalrpop_lane_report.specs.GraphViews.{graph_view}
use Rattle.lalrpop_lane_report.specs.PathSteps.{is_passed, left_into}
use Rattle.lalrpop_lane_report.specs.TraceGraphs.{is_item_node}
use Rattle.lalrpop_lane_report.specs.TraceNodes.{trace_edge_view, node_view}
use Rattle.lalrpop_lane_report.proofs.TurnLemmas.{all_into, turn_along, turn_found, turn_passed}
use Rattle.lalrpop_lane_report.proofs.traces.path_enumerator.step_along.Goals as goal

pub returns-then-is_item : goal.returns-then-is_item
returns-then-is_item c = λ walk.
    let nodes = c.args.nodes.now in
    let edges = c.args.edges.now in
    let edge = c.args.edge.now in
    let item : is_item_node (slice_get (map node_view nodes) edge.from) ≡ true =
    ap is_item_node (slice_get-map node_view nodes edge.from) ∙ sym c.is_item.ensures ∙ c.if-is_item.true in
    turn_found edges (graph_view nodes edges) c.requires c.args.steps.now.items (trace_edge_view edge) (left_into edges c.args.left edge.to) walk
    c.push.new.self.items _ c.in_ok-push.ensures.items refl item

pub returns-then-is_passed : goal.returns-then-is_passed
returns-then-is_passed c = λ walk.
    let nodes = c.args.nodes.now in
    let edges = c.args.edges.now in
    let edge = c.args.edge.now in
    let other : is_item_node (slice_get (map node_view nodes) edge.from) ≡ false =
    ap is_item_node (slice_get-map node_view nodes edge.from) ∙ sym c.is_item.ensures ∙ c.if-is_item.false in
    turn_passed edges (graph_view nodes edges) c.requires c.args.steps.now.items (trace_edge_view edge) (left_into edges c.args.left edge.to) walk
    other
    (ap (λ (l : List TakenEdge). is_passed l edge.from) (sym c.as_slice.ensures.value) ∙ sym c.is_passed.ensures ∙ c.if-is_passed.true)

pub returns : goal.returns
returns c = λ walk.
    let nodes = c.args.nodes.now in
    let edges = c.args.edges.now in
    let edge = c.args.edge.now in
    let other : is_item_node (slice_get (map node_view nodes) edge.from) ≡ false =
    ap is_item_node (slice_get-map node_view nodes edge.from) ∙ sym c.is_item.ensures ∙ c.if-is_item.false in
    turn_along edges (graph_view nodes edges) c.requires c.args.steps.now.items (trace_edge_view edge) (left_into edges c.args.left edge.to) walk
    c.push-2.new.self.items _ (left_into edges (length edges) edge.from) c.in_ok-push-2.ensures.items refl
    (all_into edges (length edges) edge.from refl) other
    (ap (λ (l : List TakenEdge). is_passed l edge.from) (sym c.as_slice.ensures.value) ∙ sym c.is_passed.ensures ∙ c.if-is_passed.false)
