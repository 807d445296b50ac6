use Rattle.std.proofs.Common.{◌++◌, ◌∙◌, ◌≤◌, [], ap, length, rules, sym}
use Rattle.std.specs.Prelude.{cond, nat_eq, string_bytes}
use Rattle.lalrpop_lane_report.specs.Reports.{lines_of_conflict}
use Rattle.lalrpop_lane_report.specs.ShownStates.{shown_conflict_of}
use Rattle.lalrpop_lane_report.proofs.ShownLemmas.{at_end, lines_of_chosen}
use Rattle.lalrpop_lane_report.proofs.state_lines.push_conflicts.Goals as goal

pub returns : goal.returns
returns g c =
    let shown = shown_conflict_of (g.L.LookaheadPrinter.token_texts c.args.terminals.now) in
    let all = c.args.conflicts.now in
    let past : length all ≤ c.loop-conflict.conflict-index = search rules in
    let done = at_end (string_bytes c.loop-conflict.out) _ (λ d. cond (nat_eq d.state.0 c.args.state.0) (lines_of_conflict (shown d)) []) all
    c.loop-conflict.conflict-index past c.loop-conflict.invariant in
    done ∙ ap (λ t. string_bytes c.args.out.now ++ t) (sym (lines_of_chosen (λ d. nat_eq d.state c.args.state.0) shown all))
