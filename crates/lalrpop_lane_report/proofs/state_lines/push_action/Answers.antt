use Rattle.std.proofs.Common.{◌++◌, ◌≡◌, ◌∙◌, ap, append_assoc, codes, subst}
use Rattle.std.specs.Prelude.{OnOk, string_bytes}
use Rattle.lalrpop_lane_report.specs.Reports.{production_line}
use Rattle.lalrpop_lane_report.specs.ShownStates.{shown_production}
use Rattle.lalrpop_lane_report.proofs.PieceLemmas.{on_ok}
use Rattle.lalrpop_lane_report.proofs.state_lines.push_action.Goals as goal

pub returns-in_ok-push_production-in-Reduce : goal.returns-in_ok-push_production-in-Reduce
returns-in_ok-push_production-in-Reduce c =
    let last = c.push_str-in-Reduce in
    rw c.in-Reduce.is (subst (λ t. OnOk last.result (string_bytes last.new.self ≡ t))
    (ap (λ t. t ++ codes "\n") (c.in_ok-push_production-in-Reduce.ensures
    ∙ ap (λ t. t ++ production_line (shown_production c.in-Reduce.other.now)) c.in_ok-push_str-in-Reduce.ensures.bytes)
    ∙ simp append_assoc) (on_ok last.result _ _ _ last.ensures.bytes))
