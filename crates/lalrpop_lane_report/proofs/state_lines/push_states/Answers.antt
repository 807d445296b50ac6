use Rattle.std.proofs.Common.{◌++◌, ◌∙◌, ◌≤◌, ap, length, map, rules, sym}
use Rattle.std.specs.Prelude.{string_bytes}
use Rattle.lalrpop_lane_report.specs.Reports.{state_lines}
use Rattle.lalrpop_lane_report.specs.ShownStates.{shown_conflict_of, shown_state}
use Rattle.lalrpop_lane_report.proofs.ShownLemmas.{at_end, flat_map_shown}
use Rattle.lalrpop_lane_report.proofs.state_lines.push_states.Goals as goal

pub returns : goal.returns
returns g c =
    let tokens = g.L.LookaheadPrinter.token_texts c.args.terminals.now in
    let conflicts = map (shown_conflict_of tokens) c.args.conflicts.now in
    let past : length c.args.states.now ≤ c.loop-state.state-index = search rules in
    let done = at_end (string_bytes c.loop-state.out) _ (λ s. state_lines conflicts (shown_state tokens s)) c.args.states.now
    c.loop-state.state-index past c.loop-state.invariant in
    done ∙ ap (λ t. string_bytes c.args.out.now ++ t) (sym (flat_map_shown (state_lines conflicts) (shown_state tokens) c.args.states.now))
