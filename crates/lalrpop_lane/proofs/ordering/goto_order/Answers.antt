use Rattle.std.proofs.Common.{◌∙◌, ap, length, subst, sym, true}
use Rattle.lalrpop_lr1_build.specs.Renumbering.{HaveTargetsWithin}
use Rattle.lalrpop_lane.proofs.NumberLemmas.{fronts_length, lent_length, renumbered_length}
use Rattle.lalrpop_lane.proofs.ordering.goto_order.Goals as goal

pub renumber_states-requires-clause-count : goal.renumber_states-requires-clause-count
renumber_states-requires-clause-count c =
    lent_length c.args.states.items c.as_slice.result.now c.in_ok-fronts.fronts.items c.as_slice-2.result.now
    c.in_ok-numbers.numbers.items c.as_slice-3.result.now c.as_slice.ensures.value c.in_ok-fronts.ensures c.as_slice-2.ensures.value
    c.in_ok-numbers.ensures c.as_slice-3.ensures.value

pub renumber_states-requires-clause-targets : goal.renumber_states-requires-clause-targets
renumber_states-requires-clause-targets c =
    subst (λ n. HaveTargetsWithin n c.args.states.items)
    (sym (lent_length c.args.states.items c.as_slice.result.now c.in_ok-fronts.fronts.items c.as_slice-2.result.now
    c.in_ok-numbers.numbers.items c.as_slice-3.result.now c.as_slice.ensures.value c.in_ok-fronts.ensures c.as_slice-2.ensures.value
    c.in_ok-numbers.ensures c.as_slice-3.ensures.value)) c.requires

pub put_marked_first-requires : goal.put_marked_first-requires
put_marked_first-requires c =
    let numbers = c.as_slice-3.result.now in
    let long = lent_length c.args.states.items c.as_slice.result.now c.in_ok-fronts.fronts.items c.as_slice-2.result.now
    c.in_ok-numbers.numbers.items numbers c.as_slice.ensures.value c.in_ok-fronts.ensures c.as_slice-2.ensures.value
    c.in_ok-numbers.ensures c.as_slice-3.ensures.value in
    ap length c.as_slice-4.ensures.value ∙ ap length c.in_ok-fronts.ensures ∙ fronts_length true c.as_slice.result.now
    ∙ ap length c.as_slice.ensures.value
    ∙ sym (ap length c.in_ok-renumbered.ensures ∙ renumbered_length numbers numbers c.args.states.items long)
