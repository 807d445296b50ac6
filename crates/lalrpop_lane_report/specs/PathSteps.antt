-- The steps of an enumerator as a walk over paths sees them: the edge that was taken, and those into the same node that are left.
use Rattle.std.specs.Prelude.{ℕ, ◌<◌, ◌==◌, Bool, List, [], ◌∷◌, filter, length, map, reverse, take, Contains}
use Rattle.std.specs.List.{list_any}
use Rattle.lalrpop_lane_report.specs.declared.traces.path_enumerator.TakenEdge.{TakenEdge}
use Rattle.lalrpop_lane_report.specs.declared.traces.path_enumerator.Turn.{Turn}
use Rattle.lalrpop_lane_report.specs.declared.traces.path_enumerator.Turn.TheVariants.{Ends, Found, Continues}
use Rattle.lalrpop_lane_report.specs.declared.traces.trace_graph.TraceGraphEdge.{TraceGraphEdge}
use Rattle.lalrpop_lane_report.specs.declared.traces.trace_graph.TraceGraphNode.{TraceGraphNode}
use Rattle.lalrpop_lane_report.specs.Enumerators.{EnumeratorView, TracePath}
use Rattle.lalrpop_lane_report.specs.Examples.{labels_of}
use Rattle.lalrpop_lane_report.specs.GraphViews.{graph_view}
use Rattle.lalrpop_lane_report.specs.Paths.{PathGraph, Taken, left_beside}
use Rattle.lalrpop_lane_report.specs.PathWalks.{IsWalked, ArrivesAt, WalksOn}
use Rattle.lalrpop_lane_report.specs.TraceGraphs.{IsWhole, path_graph}
use Rattle.lalrpop_lane_report.specs.TraceNodes.{EdgeLabel, TraceEdge, trace_edge_view, node_view}

-- how many nodes there are
abbrev pub graph_size : List TraceGraphNode → ℕ
graph_size nodes = length (map node_view nodes)

-- the edges into a node among these, the newest first
abbrev pub into_node : List TraceGraphEdge → ℕ → List TraceEdge
into_node edges n = map trace_edge_view (filter (λ e. e.to == n) (reverse edges))

-- those among the first edges, as many as are left
abbrev pub left_into : List TraceGraphEdge → ℕ → ℕ → List TraceEdge
left_into edges left n = into_node (take left edges) n

abbrev pub taken_step : List TraceGraphEdge → TakenEdge → Taken TraceEdge
taken_step edges step = (trace_edge_view step.edge.now, left_into edges step.left step.edge.now.to)

-- the steps, the last one first, in front of others
abbrev pub taken_onto : List TraceGraphEdge → List TakenEdge → List (Taken TraceEdge) → List (Taken TraceEdge)
taken_onto edges [] ts = ts
taken_onto edges (s ∷ steps) ts = taken_onto edges steps (taken_step edges s ∷ ts)

abbrev pub taken_steps : List TraceGraphEdge → List TakenEdge → List (Taken TraceEdge)
taken_steps edges steps = taken_onto edges steps []

-- one of the steps leads to the node
abbrev pub is_passed : List TakenEdge → ℕ → Bool
is_passed steps n = list_any (λ (s : TakenEdge). n == s.edge.now.from) steps

-- the paths that are left, where the steps are a path
abbrev pub paths_left : List TraceGraphNode → List TraceGraphEdge → List TakenEdge → List TracePath
paths_left nodes edges steps = left_beside (path_graph (graph_view nodes edges)) (graph_size nodes) (taken_steps edges steps)

abbrev pub enumerator_view : List TraceGraphNode → List TraceGraphEdge → List TakenEdge → EnumeratorView
enumerator_view nodes edges steps = record { graph = graph_view nodes edges; left = paths_left nodes edges steps }

-- what comes of a turn of a search
abbrev pub TakesTurn : List TraceGraphEdge → PathGraph TraceEdge → ℕ → List (Taken TraceEdge) → List TraceEdge → Turn → List (Taken TraceEdge) → Type 0
TakesTurn edges g count ts left (Continues place) us = WalksOn g count ts left us (left_into edges place.left place.node)
TakesTurn edges g count ts left Found us = ArrivesAt g count ts left us
TakesTurn edges g count ts left Ends us = ArrivesAt g count ts left us

-- the edges of the steps, the innermost first
abbrev pub step_path : List TakenEdge → TracePath
step_path steps = map (λ (s : TakenEdge). trace_edge_view s.edge.now) steps

abbrev pub step_labels : List TakenEdge → List EdgeLabel
step_labels steps = labels_of (step_path steps)

-- the graph is whole, and the steps are a path of it, or none
pub record IsAtPath (nodes : List TraceGraphNode) (edges : List TraceGraphEdge) (steps : List TakenEdge) : Type 0 where
  pub whole : IsWhole (graph_view nodes edges)
  pub walked : IsWalked (path_graph (graph_view nodes edges)) (graph_size nodes) (taken_steps edges steps)

-- each step leads to one of so many nodes
abbrev pub AreStepsWithin : ℕ → List TakenEdge → Type 0
AreStepsWithin count steps = (s : TakenEdge) → Contains steps s → s.edge.now.from < count
