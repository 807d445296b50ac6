use Rattle.std.proofs.Common.{◌≡◌, ◌<◌, ◌∙◌, sym, ap, refl, Some, length, List, Option, arith, rules}
use Rattle.std.specs.Prelude.{slice_get}
use Rattle.std.proofs.lemmas.Option.{slice_get_read, slice_get_past}
use Rattle.lalrpop_grammar_symbols.specs.declared.terminal.TerminalString.{TerminalString}
use Rattle.lalrpop_lexer_scan.proofs.PieceLemmas.{word_found, blank_over, no_terminal}
use Rattle.lalrpop_lexer_scan.proofs.scanner.Scanner.longer.Goals as goal

pub returns-then-word-blank-clause-piece : goal.returns-then-word-blank-clause-piece
returns-then-word-blank-clause-piece c =
    blank_over c.args.self.now c.args.text.now c.args.word.now c.blank-blank.result.now c.args.entry c.requires c.utf8.word
    c.blank-blank.ensures (omega arith)

pub returns-in-None-clause-piece : goal.returns-in-None-clause-piece
returns-in-None-clause-piece c =
    no_terminal c.args.self.now c.args.text.now c.args.word.now c.args.entry c.requires
    (ap (λ (l : List (Option TerminalString)). slice_get l c.args.entry) (sym c.deref.ensures.value)
    ∙ slice_get_past c.deref.result.now c.args.entry (search rules))

pub returns-in-Some-clause-piece : goal.returns-in-Some-clause-piece
returns-in-Some-clause-piece c =
    let terminal = c.in-Some.terminal.now in
    let within : c.args.entry < length c.deref.result.now = search rules in
    let there : slice_get c.args.self.now.terminals.items c.args.entry ≡ Some terminal =
    ap (λ (l : List (Option TerminalString)). slice_get l c.args.entry) (sym c.deref.ensures.value)
    ∙ slice_get_read c.deref.result.now (length c.deref.result.now) c.args.entry terminal refl within c.in-Some.ensures.lookup.1 in
    rw (c.with_number.ensures.terminal)
    (word_found c.args.self.now c.args.text.now c.args.word.now c.blank-blank.result.now c.args.entry terminal c.requires c.utf8.word
    c.blank-blank.ensures (omega arith) there)

pub returns-in-Some-clause-entry : goal.returns-in-Some-clause-entry
returns-in-Some-clause-entry c =
    let terminal = c.in-Some.terminal.now in
    let within : c.args.entry < length c.deref.result.now = search rules in
    c.with_number.ensures.entry c.args.self.now
    (ap (λ (l : List (Option TerminalString)). slice_get l c.args.entry) (sym c.deref.ensures.value)
    ∙ slice_get_read c.deref.result.now (length c.deref.result.now) c.args.entry terminal refl within c.in-Some.ensures.lookup.1)
