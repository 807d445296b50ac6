use Rattle.std.proofs.Common.{◌++◌, ◌≡◌, ◌∙◌, ap, append_assoc, codes, map, subst}
use Rattle.std.specs.Prelude.{OnOk, string_bytes}
use Rattle.lalrpop_lr1_core.specs.Dots.{before_dot, behind_dot}
use Rattle.lalrpop_lr1_core.specs.ItemTexts.{production_symbol_text}
use Rattle.lalrpop_lane_report.specs.Reports.{behind_blanks, filled_to, lookahead_line}
use Rattle.lalrpop_lane_report.proofs.lines.push_item.Goals as goal

pub returns : goal.returns
returns g c =
    let item = c.args.item.now in
    let left = filled_to c.args.width item.production.now.nonterminal.0 in
    let before = behind_blanks (map production_symbol_text (before_dot item)) in
    let behind = behind_blanks (map production_symbol_text (behind_dot item)) in
    let last = lookahead_line (g.L.LookaheadPrinter.token_texts c.args.terminals.now item.lookahead) in
    subst (λ t. OnOk c.push_lookahead.result (string_bytes c.push_lookahead.new.out ≡ t))
    (ap (λ t. t ++ last) (c.in_ok-push_str-3.ensures.bytes ∙ ap (λ t. t ++ codes "\n") (c.in_ok-push_dotted.ensures
    ∙ ap (λ t. t ++ before ++ codes " ." ++ behind) (c.in_ok-push_str-2.ensures.bytes
    ∙ ap (λ t. t ++ codes " ->") (c.in_ok-push_filled_name.ensures ∙ ap (λ t. t ++ left) c.in_ok-push_str.ensures.bytes))))
    ∙ simp append_assoc) c.push_lookahead.ensures
