use Rattle.std.proofs.Common.{◌≡◌, arith, ap}
use Rattle.std.proofs.lemmas.List.Elements.{All-nil}
use Rattle.lalrpop_lexer_nfa.specs.declared.state.State.{State}
use Rattle.lalrpop_lexer_nfa.specs.declared.state.StateKind.{StateKind}
use Rattle.lalrpop_lexer_nfa.specs.Kinds.{kinds_of}
use Rattle.lalrpop_lexer_nfa.specs.EdgeLists.{sources}
use Rattle.lalrpop_lexer_nfa.proofs.EdgeListLemmas.{runs_none}
use Rattle.lalrpop_lexer_nfa.proofs.KindLemmas.{IsBare, AreFirst-push, AreFirst-three, AreKindsOf-joined}
use Rattle.lalrpop_lexer_nfa.proofs.automaton.Nfa.new.Goals as goal

-- what `State::new` ensures
bare : {kind : StateKind} {s : State} → s.kind ≡ kind → s.first_noop_edge ≡ 0 → s.first_test_edge ≡ 0
    → s.first_other_edge ≡ 0
    → IsBare kind s
bare is noop test other = record { is = is; noop = noop; test = test; other = other }

pub loop-made-init : goal.loop-made-init
loop-made-init c =
    let a = c.new.ensures in
    let r = c.new-2.ensures in
    let n = c.new-3.ensures in
    rw (c.in_ok-push-3.ensures.items, c.in_ok-push-2.ensures.items, c.in_ok-push.ensures.items, c.new-states.ensures.items)
    (AreFirst-three _ _ _ (bare a.kind a.noop a.test a.other) (bare r.kind r.noop r.test r.other) (bare n.kind n.noop n.test n.other))

pub loop-made-preserved : goal.loop-made-preserved
loop-made-preserved c =
    let e = c.new-in-loop-made.ensures in
    rw c.in_ok-push-4.ensures.items
    (AreFirst-push c.loop-made.states.items _ c.loop-made.made (bare e.kind e.noop e.test e.other) c.loop-made.invariant)

pub invariant_of-result : goal.invariant_of-result
invariant_of-result c =
    let h = c.loop-made.invariant in
    let none = c.new-4.ensures in
    record {
      has_start = omega (arith, h.size, c.loop-made.states.ok.0);
      noops_inside = rw none.noop (All-nil _);
      noop_targets = rw none.noop (All-nil _);
      tests_inside = rw none.test (All-nil _);
      test_targets = rw none.test (All-nil _);
      others_inside = rw none.other (All-nil _);
      other_targets = rw none.other (All-nil _);
      noops_leave = rw none.noop (All-nil _);
      tests_leave = rw none.test (All-nil _);
      others_leave = rw none.other (All-nil _);
      kinds = AreKindsOf-joined c.loop-made.made (kinds_of c.loop-made.states.items) h.kinds;
      noop_runs = runs_none (λ (s : State). s.first_noop_edge) c.loop-made.states.items _ (ap sources none.noop) h.noop;
      test_runs = runs_none (λ (s : State). s.first_test_edge) c.loop-made.states.items _ (ap sources none.test) h.test;
      other_runs = runs_none (λ (s : State). s.first_other_edge) c.loop-made.states.items _ (ap sources none.other) h.other;
    }
