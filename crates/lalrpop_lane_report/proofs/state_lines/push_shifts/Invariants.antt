use Rattle.std.proofs.Common.{◌≡◌, ◌++◌}
use Rattle.std.specs.Prelude.{flat_map, string_bytes}
use Rattle.lalrpop_lane_report.specs.Reports.{shift_line}
use Rattle.lalrpop_lane_report.specs.ShownStates.{shown_shift}
use Rattle.lalrpop_lane_report.proofs.state_lines.push_shifts.Given as goal

abbrev pub invariant-loop-terminal : goal.invariant-loop-terminal
invariant-loop-terminal l =
    string_bytes l.out ++ flat_map (λ e. shift_line l.width (shown_shift e)) l.terminal-iterator
    ≡ string_bytes l.initial.out ++ flat_map (λ e. shift_line l.width (shown_shift e)) l.shifts
