use Rattle.std.proofs.Common.{◌∙◌, ap, map}
use Rattle.lalrpop_lr1_paths.specs.Graphs.{graph_edges}
use Rattle.lalrpop_lr1_paths.specs.ReversedGraphs.{edge_ends}
use Rattle.lalrpop_lr1_paths.specs.declared.graph_paths.graph.Graph.{Graph}
use Rattle.lalrpop_lr1_paths.proofs.state_paths.reversed.last_path_edges.Goals as goal

pub returns : goal.returns
returns c = (
  c.in_ok-paths.paths,
  c.in_ok-paths.ensures.paths,
  ap (λ (graph : Graph). map edge_ends (graph_edges graph)) c.in_ok-paths.ensures.graph ∙ c.in_ok-graph.ensures.edges,
  c.in_ok-paths.ensures.goals ∙ c.as_slice.ensures.value ∙ c.in_ok-goals.ensures,
  c.in_ok-steps.ensures,
)
