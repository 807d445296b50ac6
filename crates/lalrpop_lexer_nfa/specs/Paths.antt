-- An automaton as a graph, and the words along its paths.
use Rattle.std.specs.Prelude.{◌≡◌, ℕ, zero, suc, ◌≤◌, ◌⊎◌, List, [], ◌∷◌, Some, Contains, map, slice_get, vec_len}
use Rattle.lalrpop_lexer_nfa.specs.declared.edge.Edge.{Edge}
use Rattle.lalrpop_lexer_nfa.specs.declared.edge.Noop.{Noop}
use Rattle.lalrpop_lexer_nfa.specs.declared.test.Test.{Test}
use Rattle.lalrpop_lexer_nfa.specs.declared.automaton.Nfa.{Nfa}
use Rattle.lalrpop_lexer_nfa.specs.declared.automaton.TheConstants.{ACCEPT, START}
use Rattle.lalrpop_lexer_nfa.specs.declared.state.StateKind.{StateKind}
use Rattle.lalrpop_lexer_nfa.specs.Kinds.{kinds_of}

-- an epsilon edge
pub record EpsilonEdge : Type 0 where
  pub from : ℕ
  pub to : ℕ

-- a transition that reads a number from start to end
pub record TransitionEdge : Type 0 where
  pub from : ℕ
  pub start : ℕ
  pub end : ℕ
  pub to : ℕ

pub record Graph : Type 0 where
  pub count : ℕ
  pub kinds : List StateKind
  pub noops : List EpsilonEdge
  pub tests : List TransitionEdge

abbrev pub epsilon_edge_view : Edge Noop → EpsilonEdge
epsilon_edge_view e = record { from = e.from.0; to = e.to.0 }

abbrev pub transition_view : Edge Test → TransitionEdge
transition_view e = record { from = e.from.0; start = e.label.start; end = e.label.end; to = e.to.0 }

-- the graph of an automaton, without the edges that read what no test of their state holds: they lead to no state that accepts
abbrev pub nfa_view : Nfa → Graph
nfa_view nfa = record {
  count = vec_len nfa.states;
  kinds = kinds_of nfa.states.items;
  noops = map epsilon_edge_view nfa.edges.noop_edges.items;
  tests = map transition_view nfa.edges.test_edges.items;
}

-- the state is of that kind
abbrev pub HasKind : Graph → ℕ → StateKind → Type 0
HasKind t q kind = slice_get t.kinds q ≡ Some kind

-- an epsilon edge leads from q to r
abbrev pub HasEpsilonEdge : Graph → ℕ → ℕ → Type 0
HasEpsilonEdge t q r = (e : EpsilonEdge) × Contains t.noops e × (e.from ≡ q) × (e.to ≡ r)

-- a transition from q to r reads c
abbrev pub HasTransition : Graph → ℕ → ℕ → ℕ → Type 0
HasTransition t q c r = (e : TransitionEdge) × Contains t.tests e × (e.from ≡ q) × (e.start ≤ c) × (c ≤ e.end) × (e.to ≡ r)

-- a path of n steps from q to the goal reads the word
abbrev pub IsPath : Graph → ℕ → ℕ → ℕ → List ℕ → Type 0
IsPath t goal zero q w = (q ≡ goal) × (w ≡ [])
IsPath t goal (suc n) q w =
    ((r : ℕ) × HasEpsilonEdge t q r × IsPath t goal n r w)
    ⊎ ((c r : ℕ) × (v : List ℕ) × (w ≡ c ∷ v) × HasTransition t q c r × IsPath t goal n r v)

-- some path from q to the goal reads the word
abbrev pub HasPath : Graph → ℕ → List ℕ → ℕ → Type 0
HasPath t q w goal = (n : ℕ) × IsPath t goal n q w

-- no word leads from the start to the state, and none leads on from it
pub record IsCutOff (t : Graph) (start q : ℕ) : Type 0 where
  pub unmet : (w : List ℕ) → HasPath t start w q → ⊥
  pub last : (w : List ℕ) (goal : ℕ) → HasPath t q w goal → (w ≡ []) × (q ≡ goal)

-- the automaton of one pattern accepts the word
abbrev pub Accepts : Nfa → List ℕ → Type 0
Accepts nfa w = HasPath (nfa_view nfa) START.0 w ACCEPT.0
