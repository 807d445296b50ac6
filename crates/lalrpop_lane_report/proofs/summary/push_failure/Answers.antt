use Rattle.std.proofs.Common.{◌++◌, ◌≡◌, ◌∙◌, ◌-◌, ap, append_assoc, codes, decimal, length, map, subst}
use Rattle.std.specs.Prelude.{OnOk, filter, string_bytes}
use Rattle.lalrpop_lane_report.specs.Reports.{behind_blanks, constructed_line, count_line, is_with_shift, states_of_conflicts}
use Rattle.lalrpop_lane_report.specs.ShownStates.{shown_action}
use Rattle.lalrpop_lane_report.proofs.summary.push_failure.Goals as goal

pub returns : goal.returns
returns g c =
    let all = c.args.conflicts.now in
    let shifts = length (filter (λ d. is_with_shift (shown_action d.action)) all) in
    let last = c.push_conflicting_states in
    subst (λ t. OnOk last.result (string_bytes last.new.out ≡ t))
    (ap (λ t. t ++ codes "States with conflicts: " ++ behind_blanks (map decimal (states_of_conflicts (map (λ d. d.state.0) all))) ++ codes "\n")
    (c.in_ok-push_counts.ensures
    ∙ ap (λ t. t ++ codes "Has " ++ decimal (length all) ++ codes " conflicts\n" ++ count_line (codes "shift/reduce:  ") shifts
    ++ count_line (codes "reduce/reduce: ") (length all - shifts))
    (c.in_ok-push_constructed.ensures ∙ ap (λ t. t ++ constructed_line c.args.count) c.in_ok-push_str.ensures.bytes))
    ∙ simp append_assoc) last.ensures
