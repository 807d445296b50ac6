use Rattle.std.proofs.Common.{◌++◌, ◌≡◌, ◌∙◌, ap, append_assoc, codes, map, subst}
use Rattle.std.specs.Prelude.{OnOk, flat_map, string_bytes}
use Rattle.lalrpop_lane_report.specs.Reports.{section_lines, state_lines}
use Rattle.lalrpop_lane_report.specs.ShownStates.{shown_conflict_of, shown_state}
use Rattle.lalrpop_lane_report.proofs.generating.push_table.Goals as goal

pub returns : goal.returns
returns g c =
    let tokens = g.L.LookaheadPrinter.token_texts c.args.terminals.now in
    let lines = flat_map (state_lines (map (shown_conflict_of tokens) c.args.conflicts.now)) (map (shown_state tokens) c.args.states.now) in
    let last = c.push_states in
    subst (λ t. OnOk last.result (string_bytes last.new.out ≡ t))
    (ap (λ t. t ++ lines) c.in_ok-push_section.ensures ∙ append_assoc (string_bytes c.args.out.now) (section_lines (codes "State Table")) lines)
    last.ensures
