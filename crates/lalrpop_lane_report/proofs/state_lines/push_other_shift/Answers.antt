use Rattle.std.proofs.Common.{◌++◌, ◌≡◌, ◌∙◌, ap, append_assoc, codes, decimal, subst}
use Rattle.std.specs.Prelude.{OnOk, string_bytes}
use Rattle.lalrpop_grammar_symbols.specs.Texts.{terminal_text}
use Rattle.lalrpop_grammar_symbols.specs.Views.{terminal_view}
use Rattle.lalrpop_lane_report.specs.Reports.{filled_to}
use Rattle.lalrpop_lane_report.proofs.PieceLemmas.{on_ok}
use Rattle.lalrpop_lane_report.proofs.state_lines.push_other_shift.Goals as goal

pub returns : goal.returns
returns c =
    let shown = filled_to c.args.width (terminal_text (terminal_view c.args.terminal.now)) in
    let last = c.push_str-3 in
    subst (λ t. OnOk last.result (string_bytes last.new.self ≡ t))
    (ap (λ t. t ++ codes "\n") (c.in_ok-push_number.ensures ∙ ap (λ t. t ++ decimal c.args.target.0) (c.in_ok-push_str-2.ensures.bytes
    ∙ ap (λ t. t ++ codes "    shift and goto ") (c.in_ok-push_filled_terminal.ensures ∙ ap (λ t. t ++ shown) c.in_ok-push_str.ensures.bytes)))
    ∙ simp append_assoc) (on_ok last.result _ _ _ last.ensures.bytes)
