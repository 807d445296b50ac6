use Rattle.std.proofs.Common.{◌≡◌, ◌++◌, drop, map}
use Rattle.std.specs.Prelude.{flat_map, string_bytes}
use Rattle.lalrpop_lane_report.specs.Reports.{state_lines}
use Rattle.lalrpop_lane_report.specs.ShownStates.{shown_conflict_of, shown_state}
use Rattle.lalrpop_lane_report.proofs.state_lines.push_states.Given as goal

abbrev pub invariant-loop-state : goal.invariant-loop-state
invariant-loop-state g l =
    string_bytes l.out ++ flat_map (λ s. state_lines (map (shown_conflict_of (g.L.LookaheadPrinter.token_texts l.terminals)) l.conflicts) (shown_state (g.L.LookaheadPrinter.token_texts l.terminals) s)) (drop l.state-index l.states)
    ≡ string_bytes l.initial.out ++ flat_map (λ s. state_lines (map (shown_conflict_of (g.L.LookaheadPrinter.token_texts l.terminals)) l.conflicts) (shown_state (g.L.LookaheadPrinter.token_texts l.terminals) s)) l.states
