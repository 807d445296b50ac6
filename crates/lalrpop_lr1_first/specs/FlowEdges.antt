-- The program's edges, with the first sets that stand at their rests.
use Rattle.std.specs.Prelude.{ℕ, ◌<◌, List, map, ◌≡◌, Some, slice_get}
use Rattle.lalrpop_lr1_first.specs.Flows.{FlowEdge}
use Rattle.lalrpop_lr1_first.specs.Numbers.{set_of_number}
use Rattle.lalrpop_lr1_first.specs.declared.flowing.Edge.{Edge}

abbrev pub edge_seen : List (List ℕ) → Edge → FlowEdge
edge_seen firsts e = record { from = e.from; to = e.to; first = set_of_number firsts e.rest }

abbrev pub edges_seen : List (List ℕ) → List Edge → List FlowEdge
edges_seen firsts edges = map (edge_seen firsts) edges

-- each edge's rest has a first set
abbrev pub RestsAreWithin : ℕ → List Edge → Type 0
RestsAreWithin n edges = (r : ℕ) (e : Edge) → slice_get edges r ≡ Some e → e.rest < n
