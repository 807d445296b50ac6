use Rattle.std.proofs.Common.{◌∙◌, ◌+◌, arith, ap, refl, subst, sym, take}
use Rattle.std.proofs.lemmas.List.{length-take-le, length_push, take_all}
use Rattle.lalrpop_lr1_first.proofs.AddLemmas.{taken_more}
use Rattle.lalrpop_lr1_paths.specs.CompletionSteps.{AreStepEdges}
use Rattle.lalrpop_lr1_paths.proofs.StepEdgeLemmas.{no_step_edges, step_edges_more}
use Rattle.lalrpop_lr1_paths.proofs.completion_steps.completion_graphs.edges_of_steps.Goals as goal

pub loop-step-init : goal.loop-step-init
loop-step-init c = rw c.new-edges.ensures.items (refl, no_step_edges)

pub loop-step-preserved : goal.loop-step-preserved
loop-step-preserved c =
    let i = c.loop-step.step-index in
    let steps = c.args.steps.now in
    let edges = c.loop-step.edges.items in
    let long = c.loop-step.invariant.0 in
    let pushed = c.in_ok-push.ensures.items in
    rw (pushed, taken_more steps i c.step-item.result c.loop-step-test.true c.step-item.is) (
      length_push edges _ ∙ ap (λ k. k + 1) long,
      step_edges_more (take i steps) edges c.step-item.result _ (long ∙ sym (length-take-le i steps (omega arith)))
          c.loop-step.invariant.1 c.edge_of_step.ensures,
    )

pub returns : goal.returns
returns c =
    subst (λ l. AreStepEdges l c.loop-step.edges.items) (take_all c.loop-step.step-index c.args.steps.now c.loop-step-test.false)
    c.loop-step.invariant.1
