use Rattle.std.proofs.Common.{ap}
use Rattle.std.specs.Option.{option_or}
use Rattle.std.specs.Prelude.{flat_map}
use Rattle.lalrpop_grammar_symbols.specs.Subsymbols.{subsymbols_of}
use Rattle.lalrpop_grammar_symbols.specs.SubsymbolsLeft.{subsymbols_left}
use Rattle.lalrpop_grammar_symbols.specs.SymbolWalks.{symbols_view}
use Rattle.lalrpop_grammar_symbols.specs.Views.{symbol_view}
use Rattle.lalrpop_lexer_scan.specs.Literals.{first_span, uses_at}
use Rattle.lalrpop_lexer_scan.specs.Noting.{noted_span_of}
use Rattle.lalrpop_lexer_scan.proofs.NotingLemmas.{NotesInAll-step}
use Rattle.lalrpop_lexer_scan.proofs.noting.note_symbols.Goals as goal

pub loop-symbol-preserved : goal.loop-symbol-preserved
loop-symbol-preserved c =
    NotesInAll-step
    (λ t. option_or (noted_span_of c.args.uses.now t) (first_span (flat_map uses_at (subsymbols_of (symbols_view c.args.symbols.now))) t))
    c.loop-symbol.uses c.note_at.new.uses (flat_map uses_at (subsymbols_left c.loop-symbol.symbol-iterator))
    (uses_at (symbol_view c.in-Some.symbol.now)) (flat_map uses_at (subsymbols_left c.next.new.self))
    (ap (flat_map uses_at) c.in-Some.ensures.steps) c.in_ok-note_at.ensures c.loop-symbol.invariant
