-- Paths of a graph: edges one after the other, from a node to a goal.
use Rattle.std.specs.Prelude.{ℕ, ◌+◌, ◌-◌, ◌^◌, ◌<◌, List, [], ◌∷◌, min, ◌≡◌, Option, Some, None, slice_get}
use Rattle.lalrpop_lr1_paths.specs.declared.graph_paths.graph.Edge.{Edge}
use Rattle.lalrpop_lr1_paths.specs.declared.graph_paths.graph.Goal.{Goal}
use Rattle.lalrpop_lr1_paths.specs.declared.graph_paths.paths.GoalPath.{GoalPath}

-- each edge leads from a node below the count to one below it
abbrev pub EdgesAreBelow : ℕ → List Edge → Type 0
EdgesAreBelow nodes edges = (e : ℕ) (edge : Edge) → slice_get edges e ≡ Some edge → (edge.from < nodes) × (edge.to < nodes)

-- each goal is at a node below the count
abbrev pub GoalsAreBelow : ℕ → List Goal → Type 0
GoalsAreBelow nodes goals = (g : ℕ) (goal : Goal) → slice_get goals g ≡ Some goal → goal.node < nodes

-- The edges with these numbers lead from the node to where the goal with this number is, each from where the one before it leads.
pub data IsPathTo (edges : List Edge) (goals : List Goal) : ℕ → List ℕ → ℕ → Type 0 where
  ends : (node g : ℕ) (goal : Goal) → slice_get goals g ≡ Some goal → goal.node ≡ node → IsPathTo edges goals node [] g
  goes_on : (node e : ℕ) (edge : Edge) (es : List ℕ) (g : ℕ) → slice_get edges e ≡ Some edge → edge.from ≡ node →
      IsPathTo edges goals edge.to es g → IsPathTo edges goals node (e ∷ es) g

-- what the edge and the goal with a number weigh
abbrev pub edge_weight : Option Edge → ℕ
edge_weight None = 0
edge_weight (Some edge) = edge.weight

abbrev pub goal_weight : Option Goal → ℕ
goal_weight None = 0
goal_weight (Some goal) = goal.weight

-- a sum that stops at the greatest number
abbrev pub capped_sum : ℕ → ℕ → ℕ
capped_sum a b = min (a + b) (2 ^ 64 - 1)

-- what a path weighs: its goal, and each of its edges, the last first
abbrev pub path_weight : List Edge → List Goal → List ℕ → ℕ → ℕ
path_weight edges goals [] g = goal_weight (slice_get goals g)
path_weight edges goals (e ∷ es) g = capped_sum (path_weight edges goals es g) (edge_weight (slice_get edges e))

-- what a path weighs that may be none
abbrev pub weight_if_some : List Edge → List Goal → Option GoalPath → Option ℕ
weight_if_some edges goals None = None
weight_if_some edges goals (Some path) = Some (path_weight edges goals path.edges.items path.goal)

-- some path leads from the node to a goal; none does
pub record HasPathToGoal (edges : List Edge) (goals : List Goal) (node : ℕ) : Type 0 where
  pub edges_of : List ℕ
  pub goal : ℕ
  pub is : IsPathTo edges goals node edges_of goal

abbrev pub HasNoPathToGoal : List Edge → List Goal → ℕ → Type 0
HasNoPathToGoal edges goals node = (es : List ℕ) (g : ℕ) → IsPathTo edges goals node es g → ⊥

-- a path from the node, or none where there is none
abbrev pub IsPathIfSome : List Edge → List Goal → ℕ → Option GoalPath → Type 0
IsPathIfSome edges goals node None = HasNoPathToGoal edges goals node
IsPathIfSome edges goals node (Some path) = IsPathTo edges goals node path.edges.items path.goal

-- something where a path leads from the node to a goal, and none where none does
abbrev pub HasPathIfSome : {X : Type 0} → List Edge → List Goal → ℕ → Option X → Type 0
HasPathIfSome edges goals node None = HasNoPathToGoal edges goals node
HasPathIfSome edges goals node (Some x) = HasPathToGoal edges goals node
