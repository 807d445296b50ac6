-- What is left of a walk through symbols.
use Rattle.std.specs.Prelude.{List}
use Rattle.lalrpop_grammar_symbols.specs.declared.subsymbols.Subsymbols.{Subsymbols}
use Rattle.lalrpop_grammar_symbols.specs.SymbolWalks.{slices_view, symbols_to_come}
use Rattle.lalrpop_grammar_symbols.specs.Symbols.{WrittenSymbol}

-- the symbols that are still to come, in order
abbrev pub subsymbols_left : Subsymbols → List WrittenSymbol
subsymbols_left it = symbols_to_come (slices_view it.pending.items)
