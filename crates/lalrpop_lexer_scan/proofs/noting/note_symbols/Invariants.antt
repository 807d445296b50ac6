use Rattle.std.specs.Option.{option_or}
use Rattle.std.specs.Prelude.{flat_map}
use Rattle.lalrpop_grammar_symbols.specs.Subsymbols.{subsymbols_of}
use Rattle.lalrpop_grammar_symbols.specs.SubsymbolsLeft.{subsymbols_left}
use Rattle.lalrpop_grammar_symbols.specs.SymbolWalks.{symbols_view}
use Rattle.lalrpop_lexer_scan.specs.Literals.{first_span, uses_at}
use Rattle.lalrpop_lexer_scan.specs.Noting.{noted_span_of}
use Rattle.lalrpop_lexer_scan.proofs.NotingLemmas.{NotesInAll}
use Rattle.lalrpop_lexer_scan.proofs.noting.note_symbols.Given as goal

abbrev pub invariant-loop-symbol : goal.invariant-loop-symbol
invariant-loop-symbol l =
    NotesInAll
    (λ t. option_or (noted_span_of l.initial.uses t) (first_span (flat_map uses_at (subsymbols_of (symbols_view l.symbols))) t))
    l.uses (flat_map uses_at (subsymbols_left l.symbol-iterator))
