-- The edges of states in order, what leads on from a state and to it, and between which states symbols lead.
use Rattle.std.specs.Prelude.{◌≡◌, ◌==◌, ◌&&◌, ℕ, List, [], ◌∷◌, ◌++◌, map, filter, flat_map, reverse, Contains}
use Rattle.std.specs.List.{enumerate_from}
use Rattle.lalrpop_grammar_symbols.specs.declared.names.NonterminalString.{NonterminalString}
use Rattle.lalrpop_grammar_symbols.specs.declared.terminal.TerminalString.{TerminalString}
use Rattle.lalrpop_grammar_repr.specs.contracts.production.SymbolPartialEq.TheImpl as compared
use Rattle.lalrpop_grammar_repr.specs.declared.production.Symbol.{Symbol}
use Rattle.lalrpop_grammar_repr.specs.declared.production.Symbol.TheVariants as symbols
use Rattle.lalrpop_lr1_core.specs.declared.edge.Edge.{Edge}
use Rattle.lalrpop_lr1_core.specs.declared.state.State.{State}
use Rattle.lalrpop_lr1_core.specs.declared.state_index.StateIndex.{StateIndex}

abbrev pub edge_of : ℕ → Symbol → ℕ → Edge
edge_of n x m = record { source = n; symbol = x; target = m }

abbrev pub state_index : ℕ → StateIndex
state_index n = record { 0 = n }

-- the edge of a shift, and of a goto, of the state with this number
abbrev pub shift_edge : ℕ → TerminalString × StateIndex → Edge
shift_edge n e = edge_of n (symbols.Terminal e.0) e.1.0

abbrev pub goto_edge : ℕ → NonterminalString × StateIndex → Edge
goto_edge n e = edge_of n (symbols.Nonterminal e.0) e.1.0

-- the edges of a state in its place: its shifts, then its gotos
abbrev pub state_edges : {L : Type 0} → ℕ × State L → List Edge
state_edges s = map (shift_edge s.0) s.1.shifts ++ map (goto_edge s.0) s.1.gotos

-- the edges of states, each numbered by its place
abbrev pub edges_of : {L : Type 0} → List (State L) → List Edge
edges_of states = flat_map state_edges (enumerate_from 0 states)

-- to which states the edges from this one lead, the newest edge first
abbrev pub targets_of : ℕ → List Edge → List StateIndex
targets_of n edges = map (λ e. state_index e.target) (filter (λ e. e.source == n) (reverse edges))

-- from which states edges by the symbol lead to this one, the newest edge first
abbrev pub sources_of : ℕ → Symbol → List Edge → List StateIndex
sources_of m x edges =
    map (λ e. state_index e.source) (filter (λ e. e.target == m && (compared.ghosts).eq e.symbol x) (reverse edges))

-- the edge is among them
abbrev pub HasGraphEdge : List Edge → ℕ → Symbol → ℕ → Type 0
HasGraphEdge edges n x m = Contains edges (edge_of n x m)

-- the symbols lead from one state to another, edge by edge
abbrev pub SymbolsLead : List Edge → ℕ → List Symbol → ℕ → Type 0
SymbolsLead edges n [] m = n ≡ m
SymbolsLead edges n (x ∷ xs) m = (k : ℕ) × HasGraphEdge edges n x k × SymbolsLead edges k xs m
