use Rattle.std.proofs.Common.{◌≡◌, ◌++◌, drop}
use Rattle.lalrpop_lane_report.specs.Examples.{symbols_shown}
use Rattle.lalrpop_lane_report.proofs.traces.path_examples.next_of.Given as goal

abbrev pub invariant-loop-shown : goal.invariant-loop-shown
invariant-loop-shown l = l.next.items ++ symbols_shown (drop l.shown-index l.behind) ≡ symbols_shown l.behind
