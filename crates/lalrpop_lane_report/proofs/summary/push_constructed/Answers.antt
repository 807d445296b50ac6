use Rattle.std.proofs.Common.{◌++◌, ◌≡◌, ◌∙◌, ap, append_assoc, codes, decimal, subst}
use Rattle.std.specs.Prelude.{OnOk, string_bytes}
use Rattle.lalrpop_lane_report.proofs.PieceLemmas.{on_ok}
use Rattle.lalrpop_lane_report.proofs.summary.push_constructed.Goals as goal

pub returns : goal.returns
returns c =
    subst (λ t. OnOk c.push_str-2.result (string_bytes c.push_str-2.new.self ≡ t))
    (ap (λ t. t ++ codes " states\n") (c.in_ok-push_number.ensures ∙ ap (λ t. t ++ decimal c.args.count) c.in_ok-push_str.ensures.bytes)
    ∙ simp append_assoc) (on_ok c.push_str-2.result _ _ _ c.push_str-2.ensures.bytes)
