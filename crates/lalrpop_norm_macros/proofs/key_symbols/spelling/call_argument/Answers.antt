use Rattle.std.proofs.Common.{◌∙◌, sym}
use Rattle.std.proofs.lemmas.Bool.{true≢false}
use Rattle.lalrpop_grammar_symbols.specs.Views.{span_view, symbol_view}
use Rattle.lalrpop_norm_macros.proofs.ArgumentLemmas.{call_shown}
use Rattle.lalrpop_norm_macros.proofs.key_symbols.spelling.call_argument.Goals as goal

pub returns : goal.returns
returns c =
    call_shown c.args.name c.args.args (symbol_view c.macro_at.result) (span_view c.args.span)
    (λ e. true≢false (sym (c.is_empty.ensures.1 e) ∙ c.if-is_empty.false)) c.macro_at.ensures
