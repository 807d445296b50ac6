use Rattle.std.proofs.Common.{◌≢◌, ◌<◌, arith, refl, vec_len}
use Rattle.std.proofs.lemmas.List.{map_push}
use Rattle.std.proofs.lemmas.List.Elements.{All-push}
use Rattle.lalrpop_lexer_nfa.specs.EdgeLists.{sources}
use Rattle.lalrpop_lexer_nfa.specs.declared.automaton.TheConstants.{REJECT}
use Rattle.lalrpop_lexer_nfa.specs.declared.edge.Edge.{Edge}
use Rattle.lalrpop_lexer_nfa.specs.declared.edge.Noop.{Noop}
use Rattle.lalrpop_lexer_nfa.specs.declared.state.State.{State}
use Rattle.lalrpop_lexer_nfa.proofs.EdgeListLemmas.{runs_kept, runs_first, runs_more, sources_push, MayComeNext-push, length-sources}
use Rattle.lalrpop_lexer_nfa.specs.Paths.{epsilon_edge_view}
use Rattle.lalrpop_lexer_nfa.proofs.KindLemmas.{kinds_kept, AreKindsOf-same}
use Rattle.lalrpop_lexer_nfa.proofs.automaton.Nfa.push_noop.Goals as goal

pub invariant_of-self-then-branch-clause-noop_runs : goal.invariant_of-self-then-branch-clause-noop_runs
invariant_of-self-then-branch-clause-noop_runs c =
    let s = c.args.self.now in
    rw (c.in_ok-push_edge.ensures.pushed, sources_push)
    (runs_first (λ (s : State). s.first_noop_edge) s.states.items c.args.from _ (sources s.edges.noop_edges.items)
    (omega (arith, c.requires.from))
    (omega (arith, c.len-place.ensures, length-sources s.edges.noop_edges.items, s.edges.noop_edges.ok.0)) c.requires.last
    (rw c.if-branch.true at c.in_ok-push_edge.ensures.begins) s.noop_runs)

pub invariant_of-self-then-branch-clause-noop_targets : goal.invariant_of-self-then-branch-clause-noop_targets
invariant_of-self-then-branch-clause-noop_targets c =
    rw c.in_ok-push_edge.ensures.pushed
    (All-push (λ (e : Edge Noop). e.to.0 < vec_len c.args.self.now.states) _ _ c.args.self.now.noop_targets c.requires.to)

pub invariant_of-self-then-branch-clause-test_runs : goal.invariant_of-self-then-branch-clause-test_runs
invariant_of-self-then-branch-clause-test_runs c =
    runs_kept (λ (s : State). s.first_test_edge) _ _ _ _ _ (omega (arith, c.requires.from)) c.index_mut.ensures.value refl
    c.args.self.now.test_runs

pub invariant_of-self-then-branch-clause-other_runs : goal.invariant_of-self-then-branch-clause-other_runs
invariant_of-self-then-branch-clause-other_runs c =
    runs_kept (λ (s : State). s.first_other_edge) _ _ _ _ _ (omega (arith, c.requires.from)) c.index_mut.ensures.value refl
    c.args.self.now.other_runs

pub invariant_of-self-else-branch-clause-noop_runs : goal.invariant_of-self-else-branch-clause-noop_runs
invariant_of-self-else-branch-clause-noop_runs c =
    let s = c.args.self.now in
    rw (c.in_ok-push_edge.ensures.pushed, sources_push)
    (runs_more (λ (s : State). s.first_noop_edge) s.states.items c.args.from (sources s.edges.noop_edges.items)
    (rw c.if-branch.false at c.in_ok-push_edge.ensures.begins) s.noop_runs)

pub invariant_of-self-else-branch-clause-noops_inside : goal.invariant_of-self-else-branch-clause-noops_inside
invariant_of-self-else-branch-clause-noops_inside c =
    rw c.in_ok-push_edge.ensures.pushed
    (All-push (λ (e : Edge Noop). e.from.0 < vec_len c.args.self.now.states) _ _ c.args.self.now.noops_inside c.requires.from)

pub invariant_of-self-else-branch-clause-noop_targets : goal.invariant_of-self-else-branch-clause-noop_targets
invariant_of-self-else-branch-clause-noop_targets c =
    rw c.in_ok-push_edge.ensures.pushed
    (All-push (λ (e : Edge Noop). e.to.0 < vec_len c.args.self.now.states) _ _ c.args.self.now.noop_targets c.requires.to)

pub returns-then-branch-clause-last : goal.returns-then-branch-clause-last
returns-then-branch-clause-last c = rw (c.in_ok-push_edge.ensures.pushed, sources_push) (MayComeNext-push _ _ c.requires.last)

pub invariant_of-self-then-branch-clause-noops_inside : goal.invariant_of-self-then-branch-clause-noops_inside
invariant_of-self-then-branch-clause-noops_inside c =
    rw c.in_ok-push_edge.ensures.pushed
    (All-push (λ (e : Edge Noop). e.from.0 < vec_len c.args.self.now.states) _ _ c.args.self.now.noops_inside c.requires.from)

pub invariant_of-self-then-branch-clause-noops_leave : goal.invariant_of-self-then-branch-clause-noops_leave
invariant_of-self-then-branch-clause-noops_leave c =
    rw c.in_ok-push_edge.ensures.pushed
    (All-push (λ (e : Edge Noop). e.from.0 ≢ REJECT.0) _ _ c.args.self.now.noops_leave c.requires.leaves)

pub invariant_of-self-else-branch-clause-noops_leave : goal.invariant_of-self-else-branch-clause-noops_leave
invariant_of-self-else-branch-clause-noops_leave c =
    rw c.in_ok-push_edge.ensures.pushed
    (All-push (λ (e : Edge Noop). e.from.0 ≢ REJECT.0) _ _ c.args.self.now.noops_leave c.requires.leaves)

pub invariant_of-self-then-branch-clause-kinds : goal.invariant_of-self-then-branch-clause-kinds
invariant_of-self-then-branch-clause-kinds c =
    AreKindsOf-same _ _ (kinds_kept _ _ _ _ c.index_mut.ensures.value refl) c.args.self.now.kinds

pub invariant_of-self : goal.invariant_of-self
invariant_of-self c =
    let s = c.args.self.now in
    let kept = c.in_err-push_edge.ensures.kept in
    record {
      has_start = s.has_start;
      noops_inside = rw kept s.noops_inside;
      noop_targets = rw kept s.noop_targets;
      tests_inside = s.tests_inside;
      test_targets = s.test_targets;
      others_inside = s.others_inside;
      other_targets = s.other_targets;
      noops_leave = rw kept s.noops_leave;
      tests_leave = s.tests_leave;
      others_leave = s.others_leave;
      kinds = s.kinds;
      noop_runs = rw kept s.noop_runs;
      test_runs = s.test_runs;
      other_runs = s.other_runs;
    }

pub returns-then-branch-clause-noops : goal.returns-then-branch-clause-noops
returns-then-branch-clause-noops c = record {
  count = refl;
  kinds = kinds_kept _ _ _ _ c.index_mut.ensures.value refl;
  noops = rw c.in_ok-push_edge.ensures.pushed (map_push epsilon_edge_view c.args.self.now.edges.noop_edges.items _);
  tests = refl;
}
