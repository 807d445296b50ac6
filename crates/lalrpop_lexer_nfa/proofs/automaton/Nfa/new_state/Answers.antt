use Rattle.std.proofs.Common.{arith, refl}
use Rattle.lalrpop_lexer_nfa.specs.declared.state.State.{State}
use Rattle.lalrpop_lexer_nfa.proofs.EdgeListLemmas.{runs_state_if, sources_inside, length-sources}
use Rattle.lalrpop_lexer_nfa.proofs.KindLemmas.{AddsNeither-push_if, AreKindsOf-more}
use Rattle.lalrpop_lexer_nfa.proofs.automaton.Nfa.new_state.Goals as goal

pub invariant_of-self-clause-noop_runs : goal.invariant_of-self-clause-noop_runs
invariant_of-self-clause-noop_runs c =
    let s = c.args.self.now in
    let es = s.edges.noop_edges in
    runs_state_if (λ (s : State). s.first_noop_edge) s.states.items _ _ _ _ c.push.ensures.items
    (λ i l. omega (arith, sources_inside es.items _ s.noops_inside i l)) (omega (arith, c.len.ensures, length-sources es.items, es.ok.0))
    s.noop_runs

pub invariant_of-self-clause-test_runs : goal.invariant_of-self-clause-test_runs
invariant_of-self-clause-test_runs c =
    let s = c.args.self.now in
    let es = s.edges.test_edges in
    runs_state_if (λ (s : State). s.first_test_edge) s.states.items _ _ _ _ c.push.ensures.items
    (λ i l. omega (arith, sources_inside es.items _ s.tests_inside i l)) (omega (arith, c.len-2.ensures, length-sources es.items, es.ok.0))
    s.test_runs

pub invariant_of-self-clause-other_runs : goal.invariant_of-self-clause-other_runs
invariant_of-self-clause-other_runs c =
    let s = c.args.self.now in
    let es = s.edges.other_edges in
    runs_state_if (λ (s : State). s.first_other_edge) s.states.items _ _ _ _ c.push.ensures.items
    (λ i l. omega (arith, sources_inside es.items _ s.others_inside i l))
    (omega (arith, c.len-3.ensures, length-sources es.items, es.ok.0)) s.other_runs

pub invariant_of-self-clause-kinds : goal.invariant_of-self-clause-kinds
invariant_of-self-clause-kinds c =
    AreKindsOf-more _ _ (AddsNeither-push_if c.args.self.now.states.items _ _ _ c.push.ensures.items refl) c.args.self.now.kinds

pub returns-clause-state : goal.returns-clause-state
returns-clause-state c = record {
  is = c.len-state.ensures;
  grows = omega (arith, c.len-state.ensures, c.in_ok-push.ensures.len);
  kinds = AddsNeither-push_if c.args.self.now.states.items _ _ _ c.push.ensures.items refl;
  noops = refl;
  tests = refl;
}
