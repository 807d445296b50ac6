use Rattle.std.proofs.Common.{◌≡◌, ◌++◌, drop}
use Rattle.std.specs.Prelude.{flat_map, string_bytes}
use Rattle.lalrpop_lane_report.specs.Reports.{reduction_lines}
use Rattle.lalrpop_lane_report.specs.ShownStates.{shown_reduction}
use Rattle.lalrpop_lane_report.proofs.state_lines.push_each_reduction.Given as goal

abbrev pub invariant-loop-reduction : goal.invariant-loop-reduction
invariant-loop-reduction g l =
    string_bytes l.out ++ flat_map (λ r. reduction_lines (shown_reduction (g.L.LookaheadPrinter.token_texts l.terminals) r)) (drop l.reduction-index l.reductions)
    ≡ string_bytes l.initial.out ++ flat_map (λ r. reduction_lines (shown_reduction (g.L.LookaheadPrinter.token_texts l.terminals) r)) l.reductions
