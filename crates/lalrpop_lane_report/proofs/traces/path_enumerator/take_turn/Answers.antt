use Rattle.std.proofs.Common.{◌≡◌, ◌∙◌, ◌∷◌, ap, sym, subst, List}
use Rattle.std.proofs.lemmas.Result.{IfOk-weaker}
use Rattle.lalrpop_lane_report.specs.GraphViews.{graph_view}
use Rattle.lalrpop_lane_report.specs.PathSteps.{TakesTurn, left_into, graph_size, taken_steps}
use Rattle.lalrpop_lane_report.specs.PathWalks.{IsWalk}
use Rattle.lalrpop_lane_report.specs.TraceGraphs.{path_graph}
use Rattle.lalrpop_lane_report.specs.TraceNodes.{TraceEdge, trace_edge_view}
use Rattle.lalrpop_lane_report.proofs.traces.path_enumerator.take_turn.Goals as goal

pub returns-in-Some : goal.returns-in-Some
returns-in-Some c =
    let edges = c.args.edges.now in
    let g = path_graph (graph_view c.args.nodes.now edges) in
    let n = graph_size c.args.nodes.now in
    let edge = c.in-Some.edge.now in
    let same : left_into edges c.args.place.left c.args.place.node ≡ trace_edge_view edge ∷ left_into edges c.in-Some.left edge.to =
    c.in-Some.ensures.left ∙ ap (λ k. trace_edge_view edge ∷ left_into edges c.in-Some.left k) (sym c.in-Some.ensures.to) in
    IfOk-weaker c.step_along.result _ _
    (λ turn h walk. subst (λ (l : List TraceEdge). TakesTurn edges g n (taken_steps edges c.args.steps.now.items) l turn
    (taken_steps edges c.step_along.new.steps.items)) (sym same) (h (subst (IsWalk g n (taken_steps edges c.args.steps.now.items)) same walk)))
    c.step_along.ensures

pub returns-in-None : goal.returns-in-None
returns-in-None c = λ walk.
    let edges = c.args.edges.now in
    let g = path_graph (graph_view c.args.nodes.now edges) in
    let n = graph_size c.args.nodes.now in
    subst (λ (l : List TraceEdge). TakesTurn edges g n (taken_steps edges c.args.steps.now.items) l c.step_back.result
    (taken_steps edges c.step_back.new.steps.items))
    (sym c.in-None.ensures.left)
    (c.step_back.ensures edges g n (subst (IsWalk g n (taken_steps edges c.args.steps.now.items)) c.in-None.ensures.left walk))
