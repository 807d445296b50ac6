use Rattle.std.proofs.Common.{◌≡◌, ◌++◌, [], drop}
use Rattle.std.specs.Prelude.{cond, flat_map, nat_eq, string_bytes}
use Rattle.lalrpop_lane_report.specs.Reports.{lines_of_conflict}
use Rattle.lalrpop_lane_report.specs.ShownStates.{shown_conflict_of}
use Rattle.lalrpop_lane_report.proofs.state_lines.push_conflicts.Given as goal

abbrev pub invariant-loop-conflict : goal.invariant-loop-conflict
invariant-loop-conflict g l =
    string_bytes l.out ++ flat_map (λ c. cond (nat_eq c.state.0 l.state.0) (lines_of_conflict (shown_conflict_of (g.L.LookaheadPrinter.token_texts l.terminals) c)) []) (drop l.conflict-index l.conflicts)
    ≡ string_bytes l.initial.out ++ flat_map (λ c. cond (nat_eq c.state.0 l.state.0) (lines_of_conflict (shown_conflict_of (g.L.LookaheadPrinter.token_texts l.terminals) c)) []) l.conflicts
