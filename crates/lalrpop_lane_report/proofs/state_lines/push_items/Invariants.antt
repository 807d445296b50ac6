use Rattle.std.proofs.Common.{◌≡◌, ◌++◌, drop}
use Rattle.std.specs.Prelude.{flat_map, string_bytes}
use Rattle.lalrpop_lane_report.specs.Reports.{item_lines}
use Rattle.lalrpop_lane_report.specs.ShownStates.{shown_item}
use Rattle.lalrpop_lane_report.proofs.state_lines.push_items.Given as goal

abbrev pub invariant-loop-item : goal.invariant-loop-item
invariant-loop-item g l =
    string_bytes l.out ++ flat_map (λ i. item_lines l.width (shown_item (g.L.LookaheadPrinter.token_texts l.terminals) i)) (drop l.item-index l.items)
    ≡ string_bytes l.initial.out ++ flat_map (λ i. item_lines l.width (shown_item (g.L.LookaheadPrinter.token_texts l.terminals) i)) l.items
