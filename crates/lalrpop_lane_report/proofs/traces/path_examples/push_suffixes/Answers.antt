use Rattle.std.proofs.Common.{◌∙◌, ◌+◌, ◌∷◌, ap, drop, sym}
use Rattle.std.proofs.lemmas.List.{drop_all, drop_more}
use Rattle.lalrpop_lane_report.proofs.ExampleLemmas.{suffixes_end, suffixes_go_on}
use Rattle.lalrpop_lane_report.proofs.traces.path_examples.push_suffixes.Goals as goal

pub loop-step-preserved : goal.loop-step-preserved
loop-step-preserved c =
    let i = c.loop-step.step-index in
    let steps = c.args.steps.now in
    suffixes_go_on c.loop-step.out.items c.push_symbols.new.out.items _ (drop i steps) (drop (i + 1) steps) c.step-item.result
    (drop_more steps i c.step-item.result c.loop-step-test.true ∙ ap (λ x. x ∷ drop (i + 1) steps) (sym c.step-item.is))
    c.in_ok-push_symbols.ensures c.loop-step.invariant

pub returns : goal.returns
returns c =
    suffixes_end c.loop-step.out.items _ (drop c.loop-step.step-index c.args.steps.now)
    (drop_all c.loop-step.step-index c.args.steps.now c.loop-step-test.false) c.loop-step.invariant
