use Rattle.std.proofs.Common.{◌≡◌, ◌≢◌, ◌<◌, arith, refl, vec_len}
use Rattle.std.proofs.lemmas.List.Elements.{All-push}
use Rattle.lalrpop_lexer_nfa.specs.EdgeLists.{sources}
use Rattle.lalrpop_lexer_nfa.specs.declared.automaton.TheConstants.{REJECT}
use Rattle.lalrpop_lexer_nfa.specs.declared.edge.Edge.{Edge}
use Rattle.lalrpop_lexer_nfa.specs.declared.edge.Other.{Other}
use Rattle.lalrpop_lexer_nfa.specs.declared.state.State.{State}
use Rattle.lalrpop_lexer_nfa.proofs.EdgeListLemmas.{runs_kept, runs_first, runs_more, sources_push, length-sources}
use Rattle.lalrpop_lexer_nfa.proofs.KindLemmas.{kinds_kept, AreKindsOf-same}
use Rattle.lalrpop_lexer_nfa.proofs.automaton.Nfa.push_other.Goals as goal

pub invariant_of-self-then-branch-clause-other_runs : goal.invariant_of-self-then-branch-clause-other_runs
invariant_of-self-then-branch-clause-other_runs c =
    let s = c.args.self.now in
    rw (c.in_ok-push_edge.ensures.pushed, sources_push)
    (runs_first (λ (s : State). s.first_other_edge) s.states.items c.args.from _ (sources s.edges.other_edges.items)
    (omega (arith, c.requires.from))
    (omega (arith, c.len-place.ensures, length-sources s.edges.other_edges.items, s.edges.other_edges.ok.0)) c.requires.last
    (rw c.if-branch.true at c.in_ok-push_edge.ensures.begins) s.other_runs)

pub invariant_of-self-then-branch-clause-noop_runs : goal.invariant_of-self-then-branch-clause-noop_runs
invariant_of-self-then-branch-clause-noop_runs c =
    runs_kept (λ (s : State). s.first_noop_edge) _ _ _ _ _ (omega (arith, c.requires.from)) c.index_mut.ensures.value refl
    c.args.self.now.noop_runs

pub invariant_of-self-then-branch-clause-test_runs : goal.invariant_of-self-then-branch-clause-test_runs
invariant_of-self-then-branch-clause-test_runs c =
    runs_kept (λ (s : State). s.first_test_edge) _ _ _ _ _ (omega (arith, c.requires.from)) c.index_mut.ensures.value refl
    c.args.self.now.test_runs

pub invariant_of-self-else-branch-clause-other_runs : goal.invariant_of-self-else-branch-clause-other_runs
invariant_of-self-else-branch-clause-other_runs c =
    let s = c.args.self.now in
    rw (c.in_ok-push_edge.ensures.pushed, sources_push)
    (runs_more (λ (s : State). s.first_other_edge) s.states.items c.args.from (sources s.edges.other_edges.items)
    (rw c.if-branch.false at c.in_ok-push_edge.ensures.begins) s.other_runs)

pub invariant_of-self-else-branch-clause-others_inside : goal.invariant_of-self-else-branch-clause-others_inside
invariant_of-self-else-branch-clause-others_inside c =
    rw c.in_ok-push_edge.ensures.pushed
    (All-push (λ (e : Edge Other). e.from.0 < vec_len c.args.self.now.states) _ _ c.args.self.now.others_inside c.requires.from)

pub invariant_of-self-then-branch-clause-others_inside : goal.invariant_of-self-then-branch-clause-others_inside
invariant_of-self-then-branch-clause-others_inside c =
    rw c.in_ok-push_edge.ensures.pushed
    (All-push (λ (e : Edge Other). e.from.0 < vec_len c.args.self.now.states) _ _ c.args.self.now.others_inside c.requires.from)

pub invariant_of-self-then-branch-clause-others_leave : goal.invariant_of-self-then-branch-clause-others_leave
invariant_of-self-then-branch-clause-others_leave c =
    rw c.in_ok-push_edge.ensures.pushed
    (All-push (λ (e : Edge Other). e.from.0 ≢ REJECT.0) _ _ c.args.self.now.others_leave c.requires.leaves)

pub invariant_of-self-then-branch-clause-other_targets : goal.invariant_of-self-then-branch-clause-other_targets
invariant_of-self-then-branch-clause-other_targets c =
    rw c.in_ok-push_edge.ensures.pushed
    (All-push (λ (e : Edge Other). e.to.0 ≡ REJECT.0) _ _ c.args.self.now.other_targets refl)

pub invariant_of-self-else-branch-clause-others_leave : goal.invariant_of-self-else-branch-clause-others_leave
invariant_of-self-else-branch-clause-others_leave c =
    rw c.in_ok-push_edge.ensures.pushed
    (All-push (λ (e : Edge Other). e.from.0 ≢ REJECT.0) _ _ c.args.self.now.others_leave c.requires.leaves)

pub invariant_of-self-else-branch-clause-other_targets : goal.invariant_of-self-else-branch-clause-other_targets
invariant_of-self-else-branch-clause-other_targets c =
    rw c.in_ok-push_edge.ensures.pushed
    (All-push (λ (e : Edge Other). e.to.0 ≡ REJECT.0) _ _ c.args.self.now.other_targets refl)

pub invariant_of-self-then-branch-clause-kinds : goal.invariant_of-self-then-branch-clause-kinds
invariant_of-self-then-branch-clause-kinds c =
    AreKindsOf-same _ _ (kinds_kept _ _ _ _ c.index_mut.ensures.value refl) c.args.self.now.kinds

pub returns-then-branch : goal.returns-then-branch
returns-then-branch c = record {
  same = record { count = refl; kinds = kinds_kept _ _ _ _ c.index_mut.ensures.value refl; noops = refl; tests = refl };
}

pub invariant_of-self : goal.invariant_of-self
invariant_of-self c =
    let s = c.args.self.now in
    let kept = c.in_err-push_edge.ensures.kept in
    record {
      has_start = s.has_start;
      noops_inside = s.noops_inside;
      noop_targets = s.noop_targets;
      tests_inside = s.tests_inside;
      test_targets = s.test_targets;
      others_inside = rw kept s.others_inside;
      other_targets = rw kept s.other_targets;
      noops_leave = s.noops_leave;
      tests_leave = s.tests_leave;
      others_leave = rw kept s.others_leave;
      kinds = s.kinds;
      noop_runs = s.noop_runs;
      test_runs = s.test_runs;
      other_runs = rw kept s.other_runs;
    }
