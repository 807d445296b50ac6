-- The lists of an automaton by the kinds of their edges.
use Rattle.std.specs.Prelude.{ℕ, ◌<◌, ◌==◌, List, All, map}
use Rattle.std.specs.List.{take_while}
use Rattle.lalrpop_lexer_nfa.specs.declared.edge.Edge.{Edge}
use Rattle.lalrpop_lexer_nfa.specs.declared.state.State.{State}
use Rattle.lalrpop_lexer_nfa.specs.declared.state.Edges.{Edges}
use Rattle.lalrpop_lexer_nfa.specs.EdgeLists.{sources, HasRuns}

-- in each list the edges of one state stand one after another, from where the state says
pub record AreRuns (states : List State) (edges : Edges) : Type 0 where
  pub noop : HasRuns (map (λ (s : State). s.first_noop_edge) states) (sources edges.noop_edges.items)
  pub test : HasRuns (map (λ (s : State). s.first_test_edge) states) (sources edges.test_edges.items)
  pub other : HasRuns (map (λ (s : State). s.first_other_edge) states) (sources edges.other_edges.items)

-- in each list the edges lead to states, of which there are so many
pub record LeadInside (count : ℕ) (edges : Edges) : Type 0 where
  pub noop : All (λ e. e.to.0 < count) edges.noop_edges.items
  pub test : All (λ e. e.to.0 < count) edges.test_edges.items
  pub other : All (λ e. e.to.0 < count) edges.other_edges.items

-- the edges at the front that come from a state
abbrev pub front_from : {L : Type 0} → ℕ → List (Edge L) → List (Edge L)
front_from {L} from es = take_while (λ (e : Edge L). e.from.0 == from) es
