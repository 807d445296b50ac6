use Rattle.std.proofs.Common.{◌≡◌}
use Rattle.lalrpop_lane_report.specs.PathSteps.{left_into}
use Rattle.lalrpop_lane_report.proofs.traces.path_enumerator.next_edge.Given as goal

abbrev pub invariant-loop-left : goal.invariant-loop-left
invariant-loop-left l = left_into l.edges l.left l.place.node ≡ left_into l.edges l.place.left l.place.node

abbrev pub decreases-loop-left : goal.decreases-loop-left
decreases-loop-left l = l.left
