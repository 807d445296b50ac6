use Rattle.std.proofs.Common.{◌≡◌, drop}
use Rattle.lalrpop_lane_report.specs.PathSteps.{is_passed}
use Rattle.lalrpop_lane_report.proofs.traces.path_enumerator.is_passed.Given as goal

abbrev pub invariant-loop-step : goal.invariant-loop-step
invariant-loop-step l = is_passed (drop l.step-index l.steps) l.node ≡ is_passed l.steps l.node
