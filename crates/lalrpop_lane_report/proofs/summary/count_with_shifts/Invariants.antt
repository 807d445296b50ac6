use Rattle.std.proofs.Common.{◌≡◌, ◌≤◌, length, take}
use Rattle.std.specs.Prelude.{filter}
use Rattle.lalrpop_lane_report.specs.Reports.{is_with_shift}
use Rattle.lalrpop_lane_report.specs.ShownStates.{shown_action}
use Rattle.lalrpop_lane_report.proofs.summary.count_with_shifts.Given as goal

abbrev pub invariant-loop-conflict : goal.invariant-loop-conflict
invariant-loop-conflict g l =
    (l.count ≡ length (filter (λ c. is_with_shift (shown_action c.action)) (take l.conflict-index l.conflicts))) × (l.count ≤ l.conflict-index)
