use Rattle.std.proofs.Common.{◌++◌, ◌∙◌, List, Option, ap, subst, sym, append-nil}
use Rattle.lalrpop_grammar.specs.Trees.{Token}
use Rattle.lalrpop_grammar_symbols.specs.Views.{span_view}
use Rattle.lalrpop_lexer_scan.specs.declared.entry_terminal.EntryTerminal.{EntryTerminal}
use Rattle.lalrpop_lexer_scan.specs.Scanning.{found_terminal_view, token_of}
use Rattle.lalrpop_lexer_scan.proofs.giving.give.Goals as goal

pub returns-in-None : goal.returns-in-None
returns-in-None g c = λ tokens received.
    let given = λ (of : Option EntryTerminal). tokens ++ token_of (found_terminal_view of) c.args.piece.now (span_view c.args.span) in
    subst (λ (ts : List Token). g.R.TokenReceiver.has_received c.args.receiver.now ts)
    (sym (append-nil tokens) ∙ ap given (sym c.in-None.is)) received
