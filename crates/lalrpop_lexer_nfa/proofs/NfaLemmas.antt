-- What the invariants of an automaton say of its graph. For the functions that build or walk one.
use Rattle.std.proofs.Common.{ℕ, ◌<◌, Contains, vec_len, arith}
use Rattle.std.proofs.lemmas.List.Elements.{All-map, All-contains}
use Rattle.lalrpop_lexer_nfa.specs.declared.automaton.Nfa.{Nfa}
use Rattle.lalrpop_lexer_nfa.specs.declared.edge.Edge.{Edge}
use Rattle.lalrpop_lexer_nfa.specs.declared.edge.Noop.{Noop}
use Rattle.lalrpop_lexer_nfa.specs.declared.test.Test.{Test}
use Rattle.lalrpop_lexer_nfa.specs.Paths.{EpsilonEdge, TransitionEdge, HasEpsilonEdge, HasTransition, epsilon_edge_view, transition_view}
use Rattle.lalrpop_lexer_nfa.specs.Paths.{nfa_view}
use Rattle.lalrpop_lexer_nfa.proofs.GraphLemmas.{AreInside}

-- in the graph of an automaton, epsilon edges and transitions go out from its states alone
pub inside_of : (nfa : Nfa) → AreInside (nfa_view nfa)
inside_of nfa = record {
  noops = All-map (λ (e : EpsilonEdge). e.from < vec_len nfa.states) epsilon_edge_view nfa.edges.noop_edges.items nfa.noops_inside;
  tests = All-map (λ (e : TransitionEdge). e.from < vec_len nfa.states) transition_view nfa.edges.test_edges.items nfa.tests_inside;
}

-- edges lead to states
pub leads_inside : (nfa : Nfa) (q x : ℕ) → HasEpsilonEdge (nfa_view nfa) q x → x < vec_len nfa.states
leads_inside nfa q x h =
    let inside = All-contains (λ (e : EpsilonEdge). e.to < vec_len nfa.states) (nfa_view nfa).noops h.0
    (All-map (λ (e : EpsilonEdge). e.to < vec_len nfa.states) epsilon_edge_view nfa.edges.noop_edges.items nfa.noop_targets) h.1 in
    omega (arith, inside, h.3)

-- in the graph of an automaton, transitions lead to states
pub reads_inside : (nfa : Nfa) (q c x : ℕ) → HasTransition (nfa_view nfa) q c x → x < vec_len nfa.states
reads_inside nfa q c x h =
    let inside = All-contains (λ (e : TransitionEdge). e.to < vec_len nfa.states) (nfa_view nfa).tests h.0
    (All-map (λ (e : TransitionEdge). e.to < vec_len nfa.states) transition_view nfa.edges.test_edges.items nfa.test_targets) h.1 in
    omega (arith, inside, h.5)

-- each epsilon edge of an automaton's list leads to a state
pub noop_inside : (nfa : Nfa) (e : Edge Noop) → Contains nfa.edges.noop_edges.items e → e.to.0 < vec_len nfa.states
noop_inside nfa e h = All-contains (λ (e : Edge Noop). e.to.0 < vec_len nfa.states) nfa.edges.noop_edges.items e nfa.noop_targets h

-- each transition of an automaton's list leads to a state
pub test_inside : (nfa : Nfa) (e : Edge Test) → Contains nfa.edges.test_edges.items e → e.to.0 < vec_len nfa.states
test_inside nfa e h = All-contains (λ (e : Edge Test). e.to.0 < vec_len nfa.states) nfa.edges.test_edges.items e nfa.test_targets h
