use Rattle.std.proofs.Common.{◌++◌, ◌≡◌, ◌∙◌, [], ap, append_assoc, codes, rules, subst, sym}
use Rattle.std.specs.Prelude.{OnOk, flat_map, string_bytes}
use Rattle.lalrpop_lane_report.specs.Reports.{reduction_lines}
use Rattle.lalrpop_lane_report.specs.ShownStates.{shown_reduction}
use Rattle.lalrpop_lane_report.proofs.ShownLemmas.{reductions_shown}
use Rattle.lalrpop_lane_report.proofs.state_lines.push_reductions.Goals as goal

pub returns : goal.returns
returns g c =
    let tokens = g.L.LookaheadPrinter.token_texts c.args.terminals.now in
    let rs = c.args.reductions.now in
    let some : rs ≡ [] → ⊥ = search rules in
    subst (λ t. OnOk c.push_each_reduction.result (string_bytes c.push_each_reduction.new.out ≡ t))
    (ap (λ t. t ++ flat_map (λ r. reduction_lines (shown_reduction tokens r)) rs) c.in_ok-push_str.ensures.bytes
    ∙ append_assoc (string_bytes c.args.out.now) (codes "\n") (flat_map (λ r. reduction_lines (shown_reduction tokens r)) rs)
    ∙ ap (λ t. string_bytes c.args.out.now ++ t) (sym (reductions_shown tokens rs some))) c.push_each_reduction.ensures
