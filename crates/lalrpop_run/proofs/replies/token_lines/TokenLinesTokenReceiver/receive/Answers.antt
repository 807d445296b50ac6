use Rattle.std.proofs.Common.{List, ℕ, ◌++◌, ◌∙◌, ap}
use Rattle.lalrpop_grammar.specs.Trees.{Token}
use Rattle.lalrpop_grammar_symbols.specs.Views.{span_view, terminal_view}
use Rattle.lalrpop_run.specs.ReplyTexts.{line, token_text}
use Rattle.lalrpop_run.proofs.TokenLineLemmas.{lines-behind}
use Rattle.lalrpop_run.proofs.replies.token_lines.TokenLinesTokenReceiver.receive.Goals as goal

pub returns : goal.returns
returns c = λ tokens received.
    let one : Token = record { terminal = terminal_view c.args.terminal.now; text = c.args.text.now; span = span_view c.args.span } in
    c.in_ok-write_line.ensures ∙ ap (λ (front : List ℕ). front ++ line (token_text one)) received ∙ lines-behind tokens one
