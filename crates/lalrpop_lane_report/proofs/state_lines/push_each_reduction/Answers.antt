use Rattle.std.proofs.Common.{◌++◌, ◌∙◌, ◌+◌, ap, append_assoc, drop, sym}
use Rattle.std.specs.Prelude.{flat_map, string_bytes}
use Rattle.lalrpop_lane_report.specs.Reports.{reduction_lines}
use Rattle.lalrpop_lane_report.specs.ShownStates.{shown_reduction}
use Rattle.lalrpop_lane_report.proofs.ShownLemmas.{drop_next}
use Rattle.lalrpop_lane_report.proofs.state_lines.push_each_reduction.Goals as goal

pub loop-reduction-preserved : goal.loop-reduction-preserved
loop-reduction-preserved g c =
    let tokens = g.L.LookaheadPrinter.token_texts c.args.terminals.now in
    let rs = c.args.reductions.now in
    let i = c.loop-reduction.reduction-index in
    let x = c.reduction-item.result in
    let next = drop_next rs i x c.loop-reduction-test.true c.reduction-item.is in
    let before = string_bytes c.loop-reduction.out in
    let behind = flat_map (λ r. reduction_lines (shown_reduction tokens r)) (drop (i + 1) rs) in
    ap (λ t. t ++ behind) c.in_ok-push_reduction.ensures ∙ append_assoc before (reduction_lines (shown_reduction tokens x)) behind
    ∙ ap (λ l. before ++ flat_map (λ r. reduction_lines (shown_reduction tokens r)) l) (sym next) ∙ c.loop-reduction.invariant
