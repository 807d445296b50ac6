use Rattle.std.proofs.Common.{◌∙◌, ap, eq-eqb, length, map, subst, sym}
use Rattle.std.specs.Prelude.{flat_map}
use Rattle.std.proofs.lemmas.Bool.{false≢true}
use Rattle.std.proofs.lemmas.List.{nil_from_length}
use Rattle.lalrpop_lr1_core.specs.Conflicts.{token_conflicts}
use Rattle.lalrpop_lr1_first.proofs.ListLemmas.{eqb_true}
use Rattle.lalrpop_lr1_theory.specs.JoinedStates.{AreNumbersAsSeen}
use Rattle.lalrpop_lr1_build.specs.StateCores.{core_in_state}
use Rattle.lalrpop_lr1_build.specs.Renumbering.{HaveTargetsWithin}
use Rattle.lalrpop_lr1_build.proofs.CollapseAnswerLemmas.{checked_of, lalr_of, lent_collapsed, some_targets}
use Rattle.lalrpop_lr1_first.proofs.TableLemmas.{long_map}
use Rattle.lalrpop_lr1_build.proofs.collapse.collapse.collapse_to_lalr_states.Goals as goal

pub join_states-requires-clause-numbers : goal.join_states-requires-clause-numbers
join_states-requires-clause-numbers c =
    subst (AreNumbersAsSeen (map core_in_state c.args.states.now)) (sym c.as_slice.ensures.value) c.in_ok-numbers.ensures

pub join_states-requires-clause-targets : goal.join_states-requires-clause-targets
join_states-requires-clause-targets c =
    let long = ap length c.as_slice.ensures.value ∙ c.in_ok-numbers.ensures.count ∙ long_map core_in_state c.args.states.now in
    subst (λ n. HaveTargetsWithin n c.args.states.now) (sym long) (some_targets c.args.terminals.now c.args.states.now c.requires)

pub returns-then-is_empty-clause-states : goal.returns-then-is_empty-clause-states
returns-then-is_empty-clause-states c =
    let ts = c.args.terminals.now in
    let collapsed = c.in_ok-collapsed.collapsed.items in
    let made = lent_collapsed ts c.args.states.now c.requires c.in_ok-numbers.numbers.items c.as_slice.result.now collapsed
    c.in_ok-numbers.ensures c.as_slice.ensures.value c.in_ok-collapsed.ensures in
    let conflicts = c.in_ok-conflicts.conflicts in
    let listed = c.in_ok-conflicts.ensures ∙ ap (flat_map (token_conflicts ts)) c.as_slice-2.ensures.value in
    let none = eqb_true conflicts.len 0 (sym c.is_empty.ensures ∙ c.if-is_empty.true) in
    record {
      states_are = made;
      none = sym listed ∙ nil_from_length conflicts.items (sym conflicts.ok.0 ∙ none);
    }

pub returns-then-is_empty-clause-lalr : goal.returns-then-is_empty-clause-lalr
returns-then-is_empty-clause-lalr c = λ g start can.
    let ts = c.args.terminals.now in
    let collapsed = c.in_ok-collapsed.collapsed.items in
    let made = lent_collapsed ts c.args.states.now c.requires c.in_ok-numbers.numbers.items c.as_slice.result.now collapsed
    c.in_ok-numbers.ensures c.as_slice.ensures.value c.in_ok-collapsed.ensures in
    lalr_of ts c.args.states.now g start can collapsed made

pub returns-then-is_empty-clause-checked : goal.returns-then-is_empty-clause-checked
returns-then-is_empty-clause-checked c = λ g start can nb alone.
    let ts = c.args.terminals.now in
    let collapsed = c.in_ok-collapsed.collapsed.items in
    let made = lent_collapsed ts c.args.states.now c.requires c.in_ok-numbers.numbers.items c.as_slice.result.now collapsed
    c.in_ok-numbers.ensures c.as_slice.ensures.value c.in_ok-collapsed.ensures in
    let conflicts = c.in_ok-conflicts.conflicts in
    let listed = c.in_ok-conflicts.ensures ∙ ap (flat_map (token_conflicts ts)) c.as_slice-2.ensures.value in
    let none = eqb_true conflicts.len 0 (sym c.is_empty.ensures ∙ c.if-is_empty.true) in
    checked_of ts c.args.states.now g start can nb alone collapsed made
    (sym listed ∙ nil_from_length conflicts.items (sym conflicts.ok.0 ∙ none))

pub returns-clause-fault : goal.returns-clause-fault
returns-clause-fault c =
    let ts = c.args.terminals.now in
    let collapsed = c.in_ok-collapsed.collapsed.items in
    let made = lent_collapsed ts c.args.states.now c.requires c.in_ok-numbers.numbers.items c.as_slice.result.now collapsed
    c.in_ok-numbers.ensures c.as_slice.ensures.value c.in_ok-collapsed.ensures in
    let conflicts = c.in_ok-conflicts.conflicts in
    record {
      states_are = made;
      conflicts_are = c.in_ok-conflicts.ensures ∙ ap (flat_map (token_conflicts ts)) c.as_slice-2.ensures.value;
      some = λ e. false≢true (sym c.if-is_empty.false ∙ c.is_empty.ensures
          ∙ eq-eqb conflicts.len 0 (conflicts.ok.0 ∙ ap length e));
    }

pub returns-clause-lalr : goal.returns-clause-lalr
returns-clause-lalr c = λ g start can.
    let ts = c.args.terminals.now in
    let collapsed = c.in_ok-collapsed.collapsed.items in
    let made = lent_collapsed ts c.args.states.now c.requires c.in_ok-numbers.numbers.items c.as_slice.result.now collapsed
    c.in_ok-numbers.ensures c.as_slice.ensures.value c.in_ok-collapsed.ensures in
    lalr_of ts c.args.states.now g start can collapsed made
