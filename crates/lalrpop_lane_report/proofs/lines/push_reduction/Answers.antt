use Rattle.std.proofs.Common.{◌++◌, ◌≡◌, ◌∙◌, ap, append_assoc, codes, subst}
use Rattle.std.specs.Prelude.{OnOk, string_bytes}
use Rattle.lalrpop_lane_report.specs.Reports.{lookahead_line, production_line}
use Rattle.lalrpop_lane_report.specs.ShownStates.{shown_production}
use Rattle.lalrpop_lane_report.proofs.lines.push_reduction.Goals as goal

pub returns : goal.returns
returns g c =
    let last = lookahead_line (g.L.LookaheadPrinter.token_texts c.args.terminals.now c.args.reduction.now.0) in
    subst (λ t. OnOk c.push_lookahead.result (string_bytes c.push_lookahead.new.out ≡ t))
    (ap (λ t. t ++ last) (c.in_ok-push_str-2.ensures.bytes ∙ ap (λ t. t ++ codes "\n") (c.in_ok-push_production.ensures
    ∙ ap (λ t. t ++ production_line (shown_production c.args.reduction.now.1.now)) c.in_ok-push_str.ensures.bytes))
    ∙ simp append_assoc) c.push_lookahead.ensures
