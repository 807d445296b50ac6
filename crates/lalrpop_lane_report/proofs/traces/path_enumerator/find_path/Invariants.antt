use Rattle.std.proofs.Common.{◌≡◌}
use Rattle.lalrpop_lane_report.specs.GraphViews.{graph_view}
use Rattle.lalrpop_lane_report.specs.Paths.{left_at}
use Rattle.lalrpop_lane_report.specs.PathSteps.{left_into, graph_size, taken_steps}
use Rattle.lalrpop_lane_report.specs.PathWalks.{IsWalk, walk_work}
use Rattle.lalrpop_lane_report.specs.TraceGraphs.{path_graph}
use Rattle.lalrpop_lane_report.proofs.traces.path_enumerator.find_path.Given as goal

abbrev pub invariant-search : goal.invariant-search
invariant-search l = record {
  left :
      left_at (path_graph (graph_view l.nodes l.edges)) (graph_size l.nodes) (taken_steps l.edges l.steps.items) (left_into l.edges l.place.left l.place.node)
      ≡ left_at (path_graph (graph_view l.nodes l.edges)) (graph_size l.nodes) (taken_steps l.edges l.fn.steps.items)
      (left_into l.edges l.fn.start.left l.fn.start.node);
  walk :
      IsWalk (path_graph (graph_view l.nodes l.edges)) (graph_size l.nodes) (taken_steps l.edges l.steps.items) (left_into l.edges l.place.left l.place.node);
}

abbrev pub decreases-search : goal.decreases-search
decreases-search l =
    walk_work (path_graph (graph_view l.nodes l.edges)) (graph_size l.nodes) (taken_steps l.edges l.steps.items) (left_into l.edges l.place.left l.place.node)
