use Rattle.std.proofs.Common.{◌≡◌, ◌++◌, drop, map}
use Rattle.lalrpop_lane_report.specs.declared.traces.example.ExampleSymbol.TheVariants as shown
use Rattle.lalrpop_lane_report.specs.Examples.{joined_suffixes}
use Rattle.lalrpop_lane_report.specs.PathSteps.{step_labels}
use Rattle.lalrpop_lane_report.proofs.traces.path_examples.push_suffixes.Given as goal

abbrev pub invariant-loop-step : goal.invariant-loop-step
invariant-loop-step l =
    l.out.items ++ map shown.Symbol (joined_suffixes (step_labels (drop l.step-index l.steps)))
    ≡ l.fn.out.items ++ map shown.Symbol (joined_suffixes (step_labels l.steps))
