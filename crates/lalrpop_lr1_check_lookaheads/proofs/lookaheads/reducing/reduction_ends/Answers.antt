use Rattle.std.proofs.Common.{◌∙◌, ◌<◌, ◌≤◌, ℕ, List, ap, arith, length, refl, subst, sym}
use Rattle.lalrpop_lr1_core.specs.declared.state.State.{State}
use Rattle.lalrpop_lr1_check_lookaheads.specs.Ends.{GainsEndMarks, ReductionBrings, ReductionsBring, end_table}
use Rattle.lalrpop_lr1_check_lookaheads.specs.KeyedSets.{GainsKeyedMarks, OfSome}
use Rattle.lalrpop_lr1_check_lookaheads.proofs.KeyedSetLemmas.{OfFirst, are_no_sets, first_all, first_more, first_none, gained_marks, no_sets}
use Rattle.lalrpop_lr1_check_lookaheads.proofs.lookaheads.reducing.reduction_ends.Goals as goal

pub add_reductions-requires : goal.add_reductions-requires
add_reductions-requires c = c.loop-state.invariant.are

pub loop-state-init : goal.loop-state-init
loop-state-init c =
    let Brings = λ (n : ℕ) (state : State (List ℕ)). OfSome (ReductionBrings n) state.reductions in
    subst (λ keyed. GainsKeyedMarks no_sets keyed (OfFirst Brings c.args.states.now 0))
    (sym (are_no_sets (end_table c.new-ends.result) c.new-ends.ensures.keys c.new-ends.ensures.sets))
    (first_none Brings c.args.states.now no_sets refl)

pub loop-state-preserved : goal.loop-state-preserved
loop-state-preserved c =
    let n = c.loop-state.state in
    let here : n < length c.args.states.now = omega arith in
    first_more (λ n (state : State (List ℕ)). OfSome (ReductionBrings n) state.reductions) c.args.states.now no_sets
    (end_table c.loop-state.ends) (end_table c.add_reductions.new.ends) n c.index-states-state.result here c.index-states-state.is
    c.loop-state.invariant
    (subst (λ l. GainsEndMarks c.loop-state.ends c.add_reductions.new.ends (OfSome (ReductionBrings n) l))
    (c.as_slice-reductions.ensures ∙ ap (λ (s : State (List ℕ)). s.reductions) (sym c.index-states-state.is))
    c.in_ok-add_reductions.ensures)

pub returns : goal.returns
returns c =
    let end : length c.args.states.now ≤ c.loop-state.state = omega arith in
    let gain = first_all (λ n (state : State (List ℕ)). OfSome (ReductionBrings n) state.reductions) c.args.states.now no_sets
    (end_table c.loop-state.ends) c.loop-state.state end c.loop-state.invariant in
    record {
      are = gain.are;
      marks = gained_marks no_sets (end_table c.loop-state.ends) (ReductionsBring c.args.states.now) refl gain;
    }
