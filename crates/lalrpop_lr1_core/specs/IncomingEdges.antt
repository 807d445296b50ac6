-- How the edges of a graph are found by the states to which they lead.
use Rattle.std.specs.Prelude.{◌≡◌, ◌==◌, ◌≤◌, ℕ, List, Some, filter, slice_get, take}
use Rattle.lalrpop_lr1_core.specs.declared.edge.Edge.{Edge}

-- the edges that lead to the state
abbrev pub edges_to : ℕ → List Edge → List Edge
edges_to m edges = filter (λ e. e.target == m) edges

-- of the first n edges all that lead to the state are among the first k
abbrev pub HaveAllTo : ℕ → List Edge → ℕ → ℕ → Type 0
HaveAllTo m edges n k = (k ≤ n) × (edges_to m (take k edges) ≡ edges_to m (take n edges))

-- a number for each of some states: among so many edges are all of the first n that lead to it
abbrev pub HasNewest : List Edge → ℕ → List ℕ → Type 0
HasNewest edges n newest = (m k : ℕ) → slice_get newest m ≡ Some k → HaveAllTo m edges n k

-- a number for each of some edges: among so many are all before it that lead to the same state
abbrev pub HasPrevious : List Edge → List ℕ → Type 0
HasPrevious edges previous =
    (n k : ℕ) (e : Edge) → slice_get edges n ≡ Some e → slice_get previous n ≡ Some k → HaveAllTo e.target edges n k
