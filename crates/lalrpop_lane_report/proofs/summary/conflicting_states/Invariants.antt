use Rattle.std.proofs.Common.{◌≡◌, map}
use Rattle.std.specs.Prelude.{drop}
use Rattle.lalrpop_lane_report.specs.Reports.{numbers_with, states_of_conflicts}
use Rattle.lalrpop_lane_report.proofs.summary.conflicting_states.Given as goal

abbrev pub invariant-loop-conflict : goal.invariant-loop-conflict
invariant-loop-conflict g l =
    numbers_with l.states.keys (map (λ c. c.state.0) (drop l.conflict-index l.conflicts))
    ≡ states_of_conflicts (map (λ c. c.state.0) l.conflicts)
