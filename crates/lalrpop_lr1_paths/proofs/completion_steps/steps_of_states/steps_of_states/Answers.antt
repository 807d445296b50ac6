use Rattle.std.proofs.Common.{◌∙◌, ap, length, subst, sym, arith, take}
use Rattle.std.proofs.lemmas.List.{length-take-le, take_all}
use Rattle.lalrpop_lr1_core.specs.declared.state.State.{State}
use Rattle.lalrpop_lr1_first.specs.FirstSetsOf.{IsProductionOf}
use Rattle.lalrpop_lr1_first.proofs.AddLemmas.{taken_more}
use Rattle.lalrpop_lr1_paths.specs.ToldSteps.{AddsCompletionSteps, AreStepsOfStates}
use Rattle.lalrpop_lr1_paths.proofs.AddedStepLemmas.{steps_of_more}
use Rattle.lalrpop_lr1_paths.proofs.completion_steps.steps_of_states.steps_of_states.Goals as goal

pub loop-number-preserved : goal.loop-number-preserved
loop-number-preserved g c =
    let states = c.args.states.now in
    let n = c.loop-number.number in
    let state = c.index-states-number.result in
    let old = c.loop-number.steps.items in
    let new = c.push_steps.new.steps.items in
    let all = length states in (
      c.in_ok-push_steps.ensures.below c.loop-number.invariant.0,
      λ it of. rw (taken_more states n state c.loop-number-test.true c.index-states-number.is)
          (steps_of_more (IsProductionOf it) c.args.paths.now all (take n states) state old new (c.loop-number.invariant.1 it of)
          (subst (λ k. AddsCompletionSteps (IsProductionOf it) c.args.paths.now all k state.items.vec old new)
          (sym (length-take-le n states (omega arith)))
          (subst (λ items. AddsCompletionSteps (IsProductionOf it) c.args.paths.now all n items old new)
          (c.as_slice-items.ensures ∙ ap (λ (it : State g.row.L.Denot). it.items.vec) (sym c.index-states-number.is))
          (c.in_ok-push_steps.ensures.steps it of)))),
    )

pub returns-clause-steps : goal.returns-clause-steps
returns-clause-steps g c = λ it of.
    subst (λ states. AreStepsOfStates (IsProductionOf it) c.args.paths.now (length c.args.states.now) states c.loop-number.steps.items)
    (take_all c.loop-number.number c.args.states.now c.loop-number-test.false) (c.loop-number.invariant.1 it of)
