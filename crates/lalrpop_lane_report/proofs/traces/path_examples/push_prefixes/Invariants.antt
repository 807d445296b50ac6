use Rattle.std.proofs.Common.{◌≡◌, ◌≤◌, ◌++◌, length, map, take}
use Rattle.lalrpop_lane_report.specs.declared.traces.example.ExampleSymbol.TheVariants as shown
use Rattle.lalrpop_lane_report.specs.Examples.{joined_prefixes}
use Rattle.lalrpop_lane_report.specs.PathSteps.{step_labels}
use Rattle.lalrpop_lane_report.proofs.traces.path_examples.push_prefixes.Given as goal

abbrev pub invariant-loop-left : goal.invariant-loop-left
invariant-loop-left l = record {
  within : l.left ≤ length l.steps;
  pushed :
      l.out.items ++ map shown.Symbol (joined_prefixes (step_labels (take l.left l.steps)))
      ≡ l.fn.out.items ++ map shown.Symbol (joined_prefixes (step_labels l.steps));
}

abbrev pub decreases-loop-left : goal.decreases-loop-left
decreases-loop-left l = l.left
