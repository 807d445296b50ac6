-- What a graph keeps: its edges, and for each node the edges that lead to it.
use Rattle.std.specs.Prelude.{ℕ, suc, Bool, true, false, List, [], ◌∷◌, ◌++◌, ◌≡◌, ◌≢◌, Option, Some}
use Rattle.std.specs.Prelude.{None, Vec, slice_get, nat_eq}
use Rattle.std.specs.Global.{Global}
use Rattle.std.specs.HashMap.{HashMap, get}
use Rattle.lalrpop_lr1_paths.specs.declared.graph_paths.graph.Edge.{Edge}
use Rattle.lalrpop_lr1_paths.specs.declared.graph_paths.graph.Graph.{Graph}
use Rattle.lalrpop_lr1_paths.specs.GraphPaths.{EdgesAreBelow}

-- the edges
abbrev pub graph_edges : Graph → List Edge
graph_edges graph = graph.edges.items

-- how many nodes there are
abbrev pub graph_node_count : Graph → ℕ
graph_node_count graph = graph.nodes

-- the numbers in a list, if there is one
abbrev pub listed_numbers : Option (Vec ℕ Global) → List ℕ
listed_numbers None = []
listed_numbers (Some list) = list.items

-- the numbers of the edges that are kept for a node
abbrev pub edges_at : {S : Type 0} → HashMap ℕ (Vec ℕ Global) S → ℕ → List ℕ
edges_at lists n = listed_numbers (get nat_eq lists n)

-- the edge was added to those of its node, and the other nodes keep theirs
pub record AddsEntering (node number : ℕ) (old new : ℕ → List ℕ) : Type 0 where
  pub here : new node ≡ old node ++ number ∷ []
  pub others : (n : ℕ) → n ≢ node → new n ≡ old n

-- the number where the test says so, in front of others
abbrev pub number_if : Bool → ℕ → List ℕ → List ℕ
number_if true k ks = k ∷ ks
number_if false k ks = ks

-- the numbers of the edges that lead to a node, counted from a number on
abbrev pub entering_from : ℕ → List Edge → ℕ → List ℕ
entering_from k [] n = []
entering_from k (edge ∷ edges) n = number_if (nat_eq edge.to n) k (entering_from (suc k) edges n)

-- the edge with the number leads to the node
pub record EntersNode (edges : List Edge) (e n : ℕ) : Type 0 where
  pub edge : Edge
  pub at : slice_get edges e ≡ Some edge
  pub to_it : edge.to ≡ n

-- the edges lead between its nodes, and it has for each node those that lead to it
pub record IsGraph (graph : Graph) : Type 0 where
  pub below : EdgesAreBelow (graph_node_count graph) (graph_edges graph)
  pub entering : (n : ℕ) → edges_at graph.entering n ≡ entering_from 0 (graph_edges graph) n
