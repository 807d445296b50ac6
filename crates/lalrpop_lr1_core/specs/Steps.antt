-- One step back over edges: which edges lead into a set of states, and from where.
use Rattle.std.specs.Prelude.{◌≡◌, ℕ, List, Contains}
use Rattle.lalrpop_grammar_repr.specs.declared.production.Symbol.{Symbol}
use Rattle.lalrpop_lr1_core.specs.Edges.{HasGraphEdge}
use Rattle.lalrpop_lr1_core.specs.declared.edge.Edge.{Edge}

-- the edge is by the symbol, from this state, and leads to one of the states
abbrev pub EntersFrom : List ℕ → Symbol → Edge → ℕ → Type 0
EntersFrom targets x edge n = (edge.symbol ≡ x) × Contains targets edge.target × (n ≡ edge.source)

-- an edge by the symbol leads from the state to one of the states
abbrev pub IsSourceBy : List ℕ → Symbol → List Edge → ℕ → Type 0
IsSourceBy targets x edges n = (m : ℕ) × HasGraphEdge edges n x m × Contains targets m
