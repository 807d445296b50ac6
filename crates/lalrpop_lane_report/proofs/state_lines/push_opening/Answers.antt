use Rattle.std.proofs.Common.{◌++◌, ◌≡◌, ◌∙◌, ap, append_assoc, codes, decimal, subst}
use Rattle.std.specs.Prelude.{OnOk, string_bytes}
use Rattle.lalrpop_lane_report.proofs.PieceLemmas.{on_ok}
use Rattle.lalrpop_lane_report.proofs.state_lines.push_opening.Goals as goal

pub returns : goal.returns
returns c =
    let last = c.push_str-2 in
    subst (λ t. OnOk last.result (string_bytes last.new.self ≡ t))
    (ap (λ t. t ++ codes " {\n") (c.in_ok-push_number.ensures ∙ ap (λ t. t ++ decimal c.args.index.0) c.in_ok-push_str.ensures.bytes)
    ∙ simp append_assoc) (on_ok last.result _ _ _ last.ensures.bytes)
