use Rattle.std.proofs.Common.{◌++◌, ◌≡◌, ◌∙◌, ap, map, subst}
use Rattle.std.specs.Prelude.{OnOk, flat_map, string_bytes}
use Rattle.lalrpop_lane_report.specs.Reports.{item_lines, reductions_part, widest}
use Rattle.lalrpop_lane_report.specs.ShownStates.{shown_item, shown_reduction}
use Rattle.lalrpop_lane_report.proofs.ShownLemmas.{items_shown}
use Rattle.lalrpop_lane_report.proofs.state_lines.push_held.Goals as goal

pub returns : goal.returns
returns g c =
    let tokens = g.L.LookaheadPrinter.token_texts c.args.terminals.now in
    let state = c.args.state.now in
    let items = map (shown_item tokens) state.items.vec in
    let shown_items = flat_map (item_lines (widest (map (λ i. i.left) items))) items in
    let reductions = reductions_part (map (shown_reduction tokens) state.reductions) in
    let before = string_bytes c.push_items.new.out in
    let by_items = c.in_ok-push_items.ensures
    ∙ ap (λ t. string_bytes c.args.out.now ++ t) (items_shown tokens c.as_slice.result.now
    ∙ ap (λ l. flat_map (item_lines (widest (map (λ i. i.left) (map (shown_item tokens) l)))) (map (shown_item tokens) l)) c.as_slice.ensures) in
    subst (λ t. OnOk c.push_reductions.result (string_bytes c.push_reductions.new.out ≡ t))
    (ap (λ l. before ++ reductions_part (map (shown_reduction tokens) l)) c.as_slice-2.ensures
    ∙ ap (λ t. t ++ reductions) by_items)
    c.push_reductions.ensures
