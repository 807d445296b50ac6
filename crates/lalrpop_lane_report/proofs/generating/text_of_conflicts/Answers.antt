use Rattle.std.proofs.Common.{◌++◌, ◌∙◌, ap, length, map, sym}
use Rattle.std.proofs.lemmas.List.{length-map}
use Rattle.std.specs.Prelude.{filter, string_bytes}
use Rattle.lalrpop_lane_report.specs.Reports.{head_lines, is_with_shift, states_of_conflicts, summary_of_conflicts, table_lines}
use Rattle.lalrpop_lane_report.specs.ShownStates.{shown_action, shown_conflict_of, shown_state}
use Rattle.lalrpop_lane_report.proofs.ShownLemmas.{summary_shown}
use Rattle.lalrpop_lane_report.proofs.generating.text_of_conflicts.Goals as goal

pub returns : goal.returns
returns g c =
    let tokens = g.L.LookaheadPrinter.token_texts c.args.terminals.now in
    let states = c.args.error.now.states.items in
    let conflicts = c.args.error.now.conflicts.items in
    let counted = ap (λ n. summary_of_conflicts n (length c.as_slice.result.now)
    (length (filter (λ d. is_with_shift (shown_action d.action)) c.as_slice.result.now)) (states_of_conflicts (map (λ d. d.state.0) c.as_slice.result.now)))
    (c.len.ensures ∙ c.args.error.now.states.ok.0 ∙ sym (length-map states (shown_state tokens)))
    ∙ ap (λ l. summary_of_conflicts (length (map (shown_state tokens) states)) (length l)
    (length (filter (λ d. is_with_shift (shown_action d.action)) l)) (states_of_conflicts (map (λ d. d.state.0) l))) c.as_slice.ensures.value
    ∙ summary_shown tokens (length (map (shown_state tokens) states)) conflicts in
    let start = c.in_ok-push_head.ensures ∙ ap (λ t. t ++ head_lines) c.new-text.ensures.bytes in
    let summed = c.in_ok-push_failure.ensures ∙ ap (λ t. string_bytes c.push_head.new.out ++ t) counted in
    let listed = c.in_ok-push_table.ensures
    ∙ ap (λ l. string_bytes c.push_failure.new.out ++ table_lines (map (shown_conflict_of tokens) c.as_slice-3.result.now) (map (shown_state tokens) l))
    c.as_slice-2.ensures.value
    ∙ ap (λ l. string_bytes c.push_failure.new.out ++ table_lines (map (shown_conflict_of tokens) l) (map (shown_state tokens) states))
    c.as_slice-3.ensures.value in
    let shown = map (shown_conflict_of tokens) conflicts in
    listed ∙ ap (λ t. t ++ table_lines shown (map (shown_state tokens) states)) (summed
    ∙ ap (λ t. t ++ summary_of_conflicts (length (map (shown_state tokens) states)) (length shown)
    (length (filter (λ d. is_with_shift d.action) shown)) (states_of_conflicts (map (λ d. d.state) shown))) start)
