use Rattle.std.proofs.Common.{◌++◌, ◌∙◌, [], ap, length, map, sym}
use Rattle.std.proofs.lemmas.List.{length-map}
use Rattle.std.specs.Prelude.{string_bytes}
use Rattle.lalrpop_lane_report.specs.Reports.{constructed_line, head_lines, table_lines}
use Rattle.lalrpop_lane_report.specs.ShownStates.{shown_conflict_of, shown_state}
use Rattle.lalrpop_lane_report.proofs.generating.text_of_states.Goals as goal

pub returns : goal.returns
returns g c =
    let tokens = g.L.LookaheadPrinter.token_texts c.args.terminals.now in
    let states = map (shown_state tokens) c.args.states.now in
    let start = c.in_ok-push_head.ensures ∙ ap (λ t. t ++ head_lines) c.new-text.ensures.bytes in
    let counted = c.in_ok-push_constructed.ensures
    ∙ ap (λ n. string_bytes c.push_head.new.out ++ constructed_line n) (sym (length-map c.args.states.now (shown_state tokens))) in
    let listed = c.in_ok-push_table.ensures
    ∙ ap (λ l. string_bytes c.push_constructed.new.out ++ table_lines (map (shown_conflict_of tokens) l) states)
    (c.as_slice.ensures.value ∙ c.new-conflicts.ensures.items) in
    listed ∙ ap (λ t. t ++ table_lines (map (shown_conflict_of tokens) []) states) (counted ∙ ap (λ t. t ++ constructed_line (length states)) start)
