use Rattle.std.proofs.Common.{◌≢◌, ◌<◌, arith, refl, vec_len}
use Rattle.std.proofs.lemmas.List.{map_push}
use Rattle.std.proofs.lemmas.List.Elements.{All-push}
use Rattle.lalrpop_lexer_nfa.specs.EdgeLists.{sources}
use Rattle.lalrpop_lexer_nfa.specs.declared.automaton.TheConstants.{REJECT}
use Rattle.lalrpop_lexer_nfa.specs.declared.edge.Edge.{Edge}
use Rattle.lalrpop_lexer_nfa.specs.declared.test.Test.{Test}
use Rattle.lalrpop_lexer_nfa.specs.declared.state.State.{State}
use Rattle.lalrpop_lexer_nfa.proofs.EdgeListLemmas.{runs_kept, runs_first, runs_more, sources_push, MayComeNext-push, length-sources}
use Rattle.lalrpop_lexer_nfa.specs.Paths.{transition_view}
use Rattle.lalrpop_lexer_nfa.proofs.KindLemmas.{kinds_kept, AreKindsOf-same}
use Rattle.lalrpop_lexer_nfa.proofs.automaton.Nfa.push_test.Goals as goal

pub invariant_of-self-then-branch-clause-test_runs : goal.invariant_of-self-then-branch-clause-test_runs
invariant_of-self-then-branch-clause-test_runs c =
    let s = c.args.self.now in
    rw (c.in_ok-push_edge.ensures.pushed, sources_push)
    (runs_first (λ (s : State). s.first_test_edge) s.states.items c.args.from _ (sources s.edges.test_edges.items)
    (omega (arith, c.requires.from))
    (omega (arith, c.len-place.ensures, length-sources s.edges.test_edges.items, s.edges.test_edges.ok.0)) c.requires.last
    (rw c.if-branch.true at c.in_ok-push_edge.ensures.begins) s.test_runs)

pub invariant_of-self-then-branch-clause-test_targets : goal.invariant_of-self-then-branch-clause-test_targets
invariant_of-self-then-branch-clause-test_targets c =
    rw c.in_ok-push_edge.ensures.pushed
    (All-push (λ (e : Edge Test). e.to.0 < vec_len c.args.self.now.states) _ _ c.args.self.now.test_targets c.requires.to)

pub invariant_of-self-then-branch-clause-noop_runs : goal.invariant_of-self-then-branch-clause-noop_runs
invariant_of-self-then-branch-clause-noop_runs c =
    runs_kept (λ (s : State). s.first_noop_edge) _ _ _ _ _ (omega (arith, c.requires.from)) c.index_mut.ensures.value refl
    c.args.self.now.noop_runs

pub invariant_of-self-then-branch-clause-other_runs : goal.invariant_of-self-then-branch-clause-other_runs
invariant_of-self-then-branch-clause-other_runs c =
    runs_kept (λ (s : State). s.first_other_edge) _ _ _ _ _ (omega (arith, c.requires.from)) c.index_mut.ensures.value refl
    c.args.self.now.other_runs

pub invariant_of-self-else-branch-clause-test_runs : goal.invariant_of-self-else-branch-clause-test_runs
invariant_of-self-else-branch-clause-test_runs c =
    let s = c.args.self.now in
    rw (c.in_ok-push_edge.ensures.pushed, sources_push)
    (runs_more (λ (s : State). s.first_test_edge) s.states.items c.args.from (sources s.edges.test_edges.items)
    (rw c.if-branch.false at c.in_ok-push_edge.ensures.begins) s.test_runs)

pub invariant_of-self-else-branch-clause-tests_inside : goal.invariant_of-self-else-branch-clause-tests_inside
invariant_of-self-else-branch-clause-tests_inside c =
    rw c.in_ok-push_edge.ensures.pushed
    (All-push (λ (e : Edge Test). e.from.0 < vec_len c.args.self.now.states) _ _ c.args.self.now.tests_inside c.requires.from)

pub invariant_of-self-else-branch-clause-test_targets : goal.invariant_of-self-else-branch-clause-test_targets
invariant_of-self-else-branch-clause-test_targets c =
    rw c.in_ok-push_edge.ensures.pushed
    (All-push (λ (e : Edge Test). e.to.0 < vec_len c.args.self.now.states) _ _ c.args.self.now.test_targets c.requires.to)

pub returns-then-branch-clause-last : goal.returns-then-branch-clause-last
returns-then-branch-clause-last c = rw (c.in_ok-push_edge.ensures.pushed, sources_push) (MayComeNext-push _ _ c.requires.last)

pub invariant_of-self-then-branch-clause-tests_inside : goal.invariant_of-self-then-branch-clause-tests_inside
invariant_of-self-then-branch-clause-tests_inside c =
    rw c.in_ok-push_edge.ensures.pushed
    (All-push (λ (e : Edge Test). e.from.0 < vec_len c.args.self.now.states) _ _ c.args.self.now.tests_inside c.requires.from)

pub invariant_of-self-then-branch-clause-tests_leave : goal.invariant_of-self-then-branch-clause-tests_leave
invariant_of-self-then-branch-clause-tests_leave c =
    rw c.in_ok-push_edge.ensures.pushed
    (All-push (λ (e : Edge Test). e.from.0 ≢ REJECT.0) _ _ c.args.self.now.tests_leave c.requires.leaves)

pub invariant_of-self-else-branch-clause-tests_leave : goal.invariant_of-self-else-branch-clause-tests_leave
invariant_of-self-else-branch-clause-tests_leave c =
    rw c.in_ok-push_edge.ensures.pushed
    (All-push (λ (e : Edge Test). e.from.0 ≢ REJECT.0) _ _ c.args.self.now.tests_leave c.requires.leaves)

pub invariant_of-self-then-branch-clause-kinds : goal.invariant_of-self-then-branch-clause-kinds
invariant_of-self-then-branch-clause-kinds c =
    AreKindsOf-same _ _ (kinds_kept _ _ _ _ c.index_mut.ensures.value refl) c.args.self.now.kinds

pub invariant_of-self : goal.invariant_of-self
invariant_of-self c =
    let s = c.args.self.now in
    let kept = c.in_err-push_edge.ensures.kept in
    record {
      has_start = s.has_start;
      noops_inside = s.noops_inside;
      noop_targets = s.noop_targets;
      tests_inside = rw kept s.tests_inside;
      test_targets = rw kept s.test_targets;
      others_inside = s.others_inside;
      other_targets = s.other_targets;
      noops_leave = s.noops_leave;
      tests_leave = rw kept s.tests_leave;
      others_leave = s.others_leave;
      kinds = s.kinds;
      noop_runs = s.noop_runs;
      test_runs = rw kept s.test_runs;
      other_runs = s.other_runs;
    }

pub returns-then-branch-clause-tests : goal.returns-then-branch-clause-tests
returns-then-branch-clause-tests c = record {
  count = refl;
  kinds = kinds_kept _ _ _ _ c.index_mut.ensures.value refl;
  tests = rw c.in_ok-push_edge.ensures.pushed (map_push transition_view c.args.self.now.edges.test_edges.items _);
  noops = refl;
}
