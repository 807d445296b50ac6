-- The edges of states as the theory sees them, and where a symbol leads: for the test of states.
use Rattle.std.specs.Prelude.{ℕ, List, ◌++◌, Option, map, option_map}
use Rattle.std.specs.List.Sorted.{IsStrictlySortedBy}
use Rattle.std.specs.Map.{keys_of}
use Rattle.lalrpop_grammar_symbols.specs.Views.{terminal_view}
use Rattle.lalrpop_grammar_symbols.specs.contracts.names.NonterminalStringOrd.TheImpl as names
use Rattle.lalrpop_grammar_symbols.specs.contracts.terminal.TerminalStringOrd.TheImpl as terminals
use Rattle.lalrpop_grammar_symbols.specs.declared.names.NonterminalString.{NonterminalString}
use Rattle.lalrpop_grammar_symbols.specs.declared.terminal.TerminalString.{TerminalString}
use Rattle.lalrpop_grammar_repr.specs.Maps.{at_name, at_terminal}
use Rattle.lalrpop_grammar_repr.specs.declared.production.Symbol.{Symbol}
use Rattle.lalrpop_grammar_repr.specs.declared.production.Symbol.TheVariants as symbols
use Rattle.lalrpop_lr1_theory.specs.Productions as theory
use Rattle.lalrpop_lr1_core.specs.declared.state.State.{State}
use Rattle.lalrpop_lr1_core.specs.declared.state_index.StateIndex.{StateIndex}
use Rattle.lalrpop_lr1_check_lookaheads.specs.ListTests.{of_each_place}
use Rattle.lalrpop_lr1_check_lookaheads.specs.declared.parts.edges.EdgeSymbol.{EdgeSymbol}
use Rattle.lalrpop_lr1_check_lookaheads.specs.declared.parts.edges.EdgeSymbol.TheVariants as own
use Rattle.lalrpop_lr1_check_lookaheads.specs.declared.parts.edges.StateEdge.{StateEdge}

-- an edge from a state by a symbol to a state
pub record SeenEdge : Type 0 where
  pub source : ℕ
  pub symbol : theory.Symbol
  pub target : ℕ

abbrev pub seen_edge : ℕ → theory.Symbol → ℕ → SeenEdge
seen_edge n X m = record { source = n; symbol = X; target = m }

abbrev pub edge_symbol_view : EdgeSymbol → theory.Symbol
edge_symbol_view (own.Terminal t) = theory.terminal (terminal_view t.now)
edge_symbol_view (own.Nonterminal n) = theory.nonterminal n.now.0

abbrev pub noted_edge : StateEdge → SeenEdge
noted_edge e = seen_edge e.source (edge_symbol_view e.symbol) e.target

-- the edge of a shift and of a goto
abbrev pub seen_shift : ℕ → TerminalString × StateIndex → SeenEdge
seen_shift n e = seen_edge n (theory.terminal (terminal_view e.0)) e.1.0

abbrev pub seen_goto : ℕ → NonterminalString × StateIndex → SeenEdge
seen_goto n e = seen_edge n (theory.nonterminal e.0.0) e.1.0

-- the edges of a state with this number, and of states
abbrev pub edges_of_state : {L : Type 0} → ℕ → State L → List SeenEdge
edges_of_state n state = map (seen_shift n) state.shifts ++ map (seen_goto n) state.gotos

abbrev pub edges_of_states : {L : Type 0} → List (State L) → List SeenEdge
edges_of_states states = of_each_place edges_of_state states

-- the maps of the state are in order
pub record HasOrderedEdges {L : Type 0} (state : State L) : Type 0 where
  pub shifts : IsStrictlySortedBy (terminals.ghosts).cmp (keys_of state.shifts)
  pub gotos : IsStrictlySortedBy (names.ghosts).cmp (keys_of state.gotos)

-- where a symbol leads from a state
abbrev pub target_at : {L : Type 0} → State L → Symbol → Option ℕ
target_at state (symbols.Terminal t) = option_map (λ m. m.0) (at_terminal t state.shifts)
target_at state (symbols.Nonterminal n) = option_map (λ m. m.0) (at_name n state.gotos)
