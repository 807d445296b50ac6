-- The edges of states by numbers, where their symbols have numbers: for paths over numbers.
use Rattle.std.specs.Prelude.{ℕ, ◌+◌, ◌<◌, List, [], ◌∷◌, if◌then◌else◌, nat_lt, ◌≡◌, Option, Some}
use Rattle.std.specs.Prelude.{None, slice_get}
use Rattle.std.specs.Option.{option_map}
use Rattle.lalrpop_grammar_repr.specs.Maps.{at_name, at_terminal}
use Rattle.lalrpop_grammar_repr.specs.declared.production.Symbol.{Symbol}
use Rattle.lalrpop_grammar_repr.specs.declared.production.Symbol.TheVariants as symbols
use Rattle.lalrpop_lr1_core.specs.declared.edge.Edge.{Edge}
use Rattle.lalrpop_lr1_first.specs.FirstNumbers.{name_count}
use Rattle.lalrpop_lr1_least_trees.specs.declared.least_trees.LeastTrees.{LeastTrees}
use Rattle.lalrpop_lr1_paths.specs.declared.state_paths.path_edges.NumberEdge.{NumberEdge}

-- the number of a symbol by the grammar's table
abbrev pub number_of_symbol : LeastTrees → Symbol → Option ℕ
number_of_symbol it (symbols.Nonterminal n) = at_name n it.numbers
number_of_symbol it (symbols.Terminal t) = option_map (λ place. name_count it.table + place) (at_terminal t it.table.terminals.now.bits)

-- the edge, where its symbol has a number, and it leads to a state
abbrev pub edge_list : ℕ → ℕ → Option ℕ → ℕ → List NumberEdge
edge_list states source None target = []
edge_list states source (Some symbol) target =
    if nat_lt target states then record { source = source; symbol = symbol; target = target } ∷ [] else []

abbrev pub number_edges : LeastTrees → ℕ → Edge → List NumberEdge
number_edges it states edge = edge_list states edge.source (number_of_symbol it edge.symbol) edge.target

-- the edges lead between so many states
abbrev pub AreBetweenStates : ℕ → List NumberEdge → Type 0
AreBetweenStates states edges =
    (e : ℕ) (edge : NumberEdge) → slice_get edges e ≡ Some edge → (edge.source < states) × (edge.target < states)
