use Rattle.std.proofs.Common.{[], ◌∷◌, subst, take}
use Rattle.std.proofs.lemmas.List.{take_all}
use Rattle.lalrpop_lr1_first.specs.FirstSetsOf.{IsProductionOf}
use Rattle.lalrpop_lr1_first.proofs.AddLemmas.{taken_more}
use Rattle.lalrpop_lr1_paths.specs.ToldSteps.{AddsCompletionSteps}
use Rattle.lalrpop_lr1_paths.proofs.AddedStepLemmas.{adds_more}
use Rattle.lalrpop_lr1_paths.proofs.completion_steps.steps_of_states.push_steps.Goals as goal

pub loop-item-preserved : goal.loop-item-preserved
loop-item-preserved g c =
    let items = c.args.items.now in
    let i = c.loop-item.item-index in
    let item = c.item-item.result in (
      λ below. c.in_ok-push_step.ensures.below (c.loop-item.invariant.0 below),
      λ it of. rw (taken_more items i item c.loop-item-test.true c.item-item.is)
          (adds_more (IsProductionOf it) c.args.paths.now c.args.count c.args.state (take i items) (item ∷ []) c.args.steps.now.items
          c.loop-item.steps.items c.push_step.new.steps.items (c.loop-item.invariant.1 it of) (c.in_ok-push_step.ensures.steps it of)),
    )

pub returns-clause-steps : goal.returns-clause-steps
returns-clause-steps g c = λ it of.
    let old = c.args.steps.now.items in
    let new = c.loop-item.steps.items in
    subst (λ items. AddsCompletionSteps (IsProductionOf it) c.args.paths.now c.args.count c.args.state items old new)
    (take_all c.loop-item.item-index c.args.items.now c.loop-item-test.false) (c.loop-item.invariant.1 it of)
