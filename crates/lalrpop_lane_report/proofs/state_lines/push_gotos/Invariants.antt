use Rattle.std.proofs.Common.{◌≡◌, ◌++◌}
use Rattle.std.specs.Prelude.{flat_map, string_bytes}
use Rattle.lalrpop_lane_report.specs.Reports.{goto_line}
use Rattle.lalrpop_lane_report.specs.ShownStates.{shown_goto}
use Rattle.lalrpop_lane_report.proofs.state_lines.push_gotos.Given as goal

abbrev pub invariant-loop-name : goal.invariant-loop-name
invariant-loop-name l =
    string_bytes l.out ++ flat_map (λ e. goto_line l.width (shown_goto e)) l.name-iterator
    ≡ string_bytes l.initial.out ++ flat_map (λ e. goto_line l.width (shown_goto e)) l.gotos
