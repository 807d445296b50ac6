-- The search for paths: which it has found, which wait to be looked at, and what is still to be done.
use Rattle.std.specs.Prelude.{ℕ, ◌+◌, ◌<◌, List, [], ◌∷◌, ◌++◌, length, ◌≡◌, ◌≢◌, ◌⊎◌}
use Rattle.std.specs.Prelude.{Option, Some, None, Contains, nat_eq, slice_get}
use Rattle.std.specs.HashMap.{get}
use Rattle.std.specs.Option.{option_and_then, option_map}
use Rattle.std.specs.declared.cmp.Reverse.{Reverse}
use Rattle.lalrpop_lr1_paths.specs.declared.graph_paths.graph.Edge.{Edge}
use Rattle.lalrpop_lr1_paths.specs.declared.graph_paths.graph.Goal.{Goal}
use Rattle.lalrpop_lr1_paths.specs.declared.graph_paths.path_table.LightPath.{LightPath}
use Rattle.lalrpop_lr1_paths.specs.declared.graph_paths.path_table.PathStep.{PathStep}
use Rattle.lalrpop_lr1_paths.specs.declared.graph_paths.path_table.PathStep.TheVariants.{AtGoal, OverEdge}
use Rattle.lalrpop_lr1_paths.specs.declared.graph_paths.path_table.PathTable.{PathTable}
use Rattle.lalrpop_lr1_paths.specs.declared.graph_paths.waiting.Entry.{Entry}
use Rattle.lalrpop_lr1_paths.specs.declared.graph_paths.paths.GoalPaths.{GoalPaths}
use Rattle.lalrpop_lr1_paths.specs.GraphPaths.{capped_sum, edge_weight, goal_weight}
use Rattle.lalrpop_lr1_paths.specs.Graphs.{graph_edges}

-- the number of the path that a node has
abbrev pub path_numbers : PathTable → ℕ → Option ℕ
path_numbers table n = get nat_eq table.numbers n

-- the node has a path
pub record HasNumber (numbers : ℕ → Option ℕ) (n : ℕ) : Type 0 where
  pub number : ℕ
  pub is : numbers n ≡ Some number

-- the path with the number became the node's, and the other nodes keep theirs
pub record AddsNumber (old new : ℕ → Option ℕ) (n k : ℕ) : Type 0 where
  pub here : new n ≡ Some k
  pub others : (m : ℕ) → m ≢ n → new m ≡ old m

-- the goal with the number is at the node
pub record EndsAtGoal (goals : List Goal) (n g : ℕ) : Type 0 where
  pub goal : Goal
  pub at : slice_get goals g ≡ Some goal
  pub node : goal.node ≡ n

-- the edge with the number leads from the node to one whose path has this number, below a bound
pub record GoesOver (edges : List Edge) (numbers : ℕ → Option ℕ) (n bound e rest : ℕ) : Type 0 where
  pub edge : Edge
  pub at : slice_get edges e ≡ Some edge
  pub from_it : edge.from ≡ n
  pub is : numbers edge.to ≡ Some rest
  pub earlier : rest < bound

-- a path from the node can begin so
abbrev pub BeginsPath : List Edge → List Goal → (ℕ → Option ℕ) → ℕ → ℕ → PathStep → Type 0
BeginsPath edges goals numbers n bound (AtGoal g) = EndsAtGoal goals n g
BeginsPath edges goals numbers n bound (OverEdge e rest) = GoesOver edges numbers n bound e rest

-- the path weighs as much as its goal, or as its edge and the path with the number together
pub record WeighsMore (edges : List Edge) (paths : List LightPath) (weight e rest : ℕ) : Type 0 where
  pub path : LightPath
  pub at : slice_get paths rest ≡ Some path
  pub is : weight ≡ capped_sum path.weight (edge_weight (slice_get edges e))

abbrev pub IsWeighed : List Edge → List Goal → List LightPath → ℕ → PathStep → Type 0
IsWeighed edges goals paths weight (AtGoal g) = weight ≡ goal_weight (slice_get goals g)
IsWeighed edges goals paths weight (OverEdge e rest) = WeighsMore edges paths weight e rest

-- the path with the number begins at the node
pub record HasPathFrom (edges : List Edge) (goals : List Goal) (numbers : ℕ → Option ℕ) (paths : List LightPath) (n k : ℕ) :
    Type 0 where
  pub path : LightPath
  pub at : slice_get paths k ≡ Some path
  pub begins : BeginsPath edges goals numbers n k path.step
  pub weighed : IsWeighed edges goals paths path.weight path.step

-- an entry for the node waits
pub record IsWaitingFor (waiting : List (Reverse Entry)) (n : ℕ) : Type 0 where
  pub entry : Reverse Entry
  pub has : Contains waiting entry
  pub node : entry.0.node ≡ n

-- The search: paths that were found or wait begin rightly; and each node at a goal, or from which an edge leads to one that has a path,
-- has a path or an entry.
pub record IsPathSearch (edges : List Edge) (goals : List Goal) (numbers : ℕ → Option ℕ) (paths : List LightPath)
    (waiting : List (Reverse Entry)) : Type 0 where
  pub found : (n k : ℕ) → numbers n ≡ Some k → HasPathFrom edges goals numbers paths n k
  pub waits : (entry : Reverse Entry) → Contains waiting entry →
      BeginsPath edges goals numbers entry.0.node (length paths) entry.0.path.step
  pub waits_weighed : (entry : Reverse Entry) → Contains waiting entry →
      IsWeighed edges goals paths entry.0.path.weight entry.0.path.step
  pub goals_met : (g : ℕ) (goal : Goal) → slice_get goals g ≡ Some goal →
      HasNumber numbers goal.node ⊎ IsWaitingFor waiting goal.node
  pub edges_met : (e : ℕ) (edge : Edge) → slice_get edges e ≡ Some edge → HasNumber numbers edge.to →
      HasNumber numbers edge.from ⊎ IsWaitingFor waiting edge.from

-- the search's end: nothing waits
abbrev pub AreGoalPaths : GoalPaths → Type 0
AreGoalPaths paths =
    IsPathSearch (graph_edges paths.graph.now) paths.goals.now (path_numbers paths.table) paths.table.paths.items []

-- what the path from the node weighs; none where it has none
abbrev pub found_weight : GoalPaths → ℕ → Option ℕ
found_weight paths n =
    option_map (λ path. path.weight) (option_and_then (slice_get paths.table.paths.items) (path_numbers paths.table n))

-- the edge with which the path from the node begins; none where it ends at once, and where the node has none
abbrev pub edge_of_step : PathStep → Option ℕ
edge_of_step (AtGoal g) = None
edge_of_step (OverEdge e rest) = Some e

abbrev pub found_first_edge : GoalPaths → ℕ → Option ℕ
found_first_edge paths n = option_and_then (λ path. edge_of_step path.step)
    (option_and_then (slice_get paths.table.paths.items) (path_numbers paths.table n))

-- the entry's path ends at once
pub record IsGoalEntry (goals : List Goal) (entry : Entry) : Type 0 where
  pub number : ℕ
  pub step : entry.path.step ≡ AtGoal number
  pub ends_at : EndsAtGoal goals entry.node number
  pub weight : entry.path.weight ≡ goal_weight (slice_get goals number)

-- each goal has an entry, and nothing else has
pub record AreGoalEntries (goals : List Goal) (waiting : List (Reverse Entry)) : Type 0 where
  pub all : (g : ℕ) (goal : Goal) → slice_get goals g ≡ Some goal → IsWaitingFor waiting goal.node
  pub only : (entry : Reverse Entry) → Contains waiting entry → IsGoalEntry goals entry.0

-- the entry's path goes over one of these edges
pub record IsEdgeEntry (edges : List Edge) (entering : List ℕ) (rest rest_weight : ℕ) (entry : Entry) : Type 0 where
  pub number : ℕ
  pub edge : Edge
  pub has : Contains entering number
  pub at : slice_get edges number ≡ Some edge
  pub step : entry.path.step ≡ OverEdge number rest
  pub from_it : edge.from ≡ entry.node
  pub weight : entry.path.weight ≡ capped_sum rest_weight (edge_weight (slice_get edges number))

-- entries for these edges were added
pub record AddsEdges (edges : List Edge) (entering : List ℕ) (rest rest_weight : ℕ) (old new : List (Reverse Entry)) : Type 0 where
  pub kept : (entry : Reverse Entry) → Contains old entry → Contains new entry
  pub added : (e : ℕ) (edge : Edge) → Contains entering e → slice_get edges e ≡ Some edge → IsWaitingFor new edge.from
  pub only : (entry : Reverse Entry) → Contains new entry → Contains old entry ⊎ IsEdgeEntry edges entering rest rest_weight entry.0
  pub count : length new ≡ length old + length entering

-- the entry's path became its node's, and entries for the edges that lead to the node were added
pub record KeepsPath (edges : List Edge) (entering : ℕ → List ℕ) (entry : Entry) (old new : PathTable)
    (waited waiting : List (Reverse Entry)) : Type 0 where
  pub fresh : path_numbers old entry.node ≡ None
  pub number : AddsNumber (path_numbers old) (path_numbers new) entry.node (length old.paths.items)
  pub paths : new.paths.items ≡ old.paths.items ++ entry.path ∷ []
  pub adds : AddsEdges edges (entering entry.node) (length old.paths.items) entry.path.weight waited waiting

-- the entry's node has a path already
pub record PassesPath (entry : Entry) (old new : PathTable) (waited waiting : List (Reverse Entry)) : Type 0 where
  pub there : HasNumber (path_numbers old) entry.node
  pub same : new ≡ old
  pub waiting_same : waiting ≡ waited

-- how much is still to be done: one for each edge that leads to a node without a path
abbrev pub left_by : Option ℕ → ℕ
left_by None = 1
left_by (Some k) = 0

abbrev pub search_left : List Edge → (ℕ → Option ℕ) → ℕ
search_left [] numbers = 0
search_left (edge ∷ edges) numbers = left_by (numbers edge.to) + search_left edges numbers
