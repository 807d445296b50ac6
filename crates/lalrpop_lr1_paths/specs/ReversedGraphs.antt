-- The graph of the edges turned round, and the edge with which each state's path back begins: for paths to states.
use Rattle.std.specs.Prelude.{ℕ, zero, suc, ◌<◌, List, [], ◌∷◌, length, if◌then◌else◌, nat_lt, ◌≡◌}
use Rattle.std.specs.Prelude.{Option, Some, None, slice_get}
use Rattle.std.specs.Option.{option_and_then}
use Rattle.lalrpop_lr1_paths.specs.declared.graph_paths.graph.Edge as weighed
use Rattle.lalrpop_lr1_paths.specs.declared.graph_paths.graph.Goal.{Goal}
use Rattle.lalrpop_lr1_paths.specs.declared.graph_paths.paths.GoalPaths.{GoalPaths}
use Rattle.lalrpop_lr1_paths.specs.PathSearches.{found_first_edge}
use Rattle.lalrpop_lr1_paths.specs.declared.state_paths.path_edges.NumberEdge.{NumberEdge}

-- between which nodes an edge of a graph leads, and between which it would lead turned round
abbrev pub edge_ends : weighed.Edge → ℕ × ℕ
edge_ends edge = (edge.from, edge.to)

abbrev pub reversed_ends : NumberEdge → ℕ × ℕ
reversed_ends edge = (edge.target, edge.source)

-- state 0 as the goal of paths, if there are states
abbrev pub start_goals : ℕ → List Goal
start_goals states = if nat_lt 0 states then record { node = 0; weight = 0 } ∷ [] else []

-- the edge with which the state's path begins in the graph of the edges turned round; none of state 0
abbrev pub last_edge_of : List NumberEdge → GoalPaths → ℕ → Option NumberEdge
last_edge_of edges paths zero = None
last_edge_of edges paths (suc n) = option_and_then (slice_get edges) (found_first_edge paths (suc n))

-- it stands at each of so many states
pub record AreLastEdges (edges : List NumberEdge) (paths : GoalPaths) (states : ℕ) (steps : List (Option NumberEdge)) : Type 0 where
  pub count : length steps ≡ states
  pub each : (n : ℕ) → n < states → slice_get steps n ≡ Some (last_edge_of edges paths n)
