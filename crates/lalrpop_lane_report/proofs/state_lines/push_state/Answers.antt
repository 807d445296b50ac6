use Rattle.std.proofs.Common.{◌++◌, ◌≡◌, ◌∙◌, ap, append_assoc, codes, map, subst}
use Rattle.std.specs.Prelude.{OnOk, filter, flat_map, max, nat_eq, string_bytes}
use Rattle.lalrpop_grammar_symbols.specs.Texts.{terminal_text}
use Rattle.lalrpop_grammar_symbols.specs.Views.{terminal_view}
use Rattle.lalrpop_lane_report.specs.Reports.{edge_width, goto_line, item_lines, lines_of_conflict, reductions_part, shift_line, widest}
use Rattle.lalrpop_lane_report.specs.ShownStates.{shown_conflict_of, shown_goto, shown_item, shown_reduction, shown_shift, shown_state}
use Rattle.lalrpop_lane_report.proofs.PieceLemmas.{on_ok}
use Rattle.lalrpop_lane_report.proofs.ShownLemmas.{gotos_shown, shifts_shown}
use Rattle.lalrpop_lane_report.proofs.state_lines.push_state.Goals as goal

pub returns : goal.returns
returns g c =
    let tokens = g.L.LookaheadPrinter.token_texts c.args.terminals.now in
    let state = c.args.state.now in
    let conflicts = flat_map lines_of_conflict (filter (λ d. nat_eq d.state state.index.0) (map (shown_conflict_of tokens) c.args.conflicts.now)) in
    let width = edge_width (shown_state tokens state) in
    let shifts = flat_map (shift_line width) (map shown_shift state.shifts) in
    let gotos = flat_map (goto_line width) (map shown_goto state.gotos) in
    let items = map (shown_item tokens) state.items.vec in
    let shown_items = flat_map (item_lines (widest (map (λ i. i.left) items))) items in
    let reductions = reductions_part (map (shown_reduction tokens) state.reductions) in
    let by_held = c.in_ok-push_held.ensures ∙ ap (λ t. t ++ shown_items ++ reductions) c.in_ok-push_opening.ensures in
    let before = string_bytes c.push_held.new.out in
    let by_edges = c.in_ok-push_edges.ensures
    ∙ ap (λ t. before ++ codes "\n" ++ t ++ codes "\n" ++ flat_map (λ e. goto_line (max (widest (map (λ d. terminal_text (terminal_view d.0)) state.shifts)) (widest (map (λ d. d.0.0) state.gotos))) (shown_goto e)) state.gotos) (shifts_shown state.shifts state.gotos)
    ∙ ap (λ t. before ++ codes "\n" ++ shifts ++ codes "\n" ++ t) (gotos_shown state.shifts state.gotos) in
    let last = c.push_str in
    subst (λ t. OnOk last.result (string_bytes last.new.self ≡ t))
    (ap (λ t. t ++ codes "}\n") (c.in_ok-push_conflicts.ensures ∙ ap (λ t. t ++ conflicts) (by_edges
    ∙ ap (λ t. t ++ codes "\n" ++ shifts ++ codes "\n" ++ gotos) by_held))
    ∙ simp append_assoc) (on_ok last.result _ _ _ last.ensures.bytes)
