-- A walk through symbols in reading order: a stack of lists of symbols, the lists that are open, the innermost last.
use Rattle.std.specs.Prelude.{ℕ, suc, List, [], ◌∷◌, ◌++◌, map, max}
use Rattle.std.specs.Borrow.{Bor}
use Rattle.lalrpop_grammar_symbols.specs.declared.symbol.Symbol as symbols
use Rattle.lalrpop_grammar_symbols.specs.Subsymbols.{subsymbols_of, symbols_depth}
use Rattle.lalrpop_grammar_symbols.specs.Symbols.{TextSpan, Syms, syms, WrittenSymbol, Sym}
use Rattle.lalrpop_grammar_symbols.specs.Views.{symbol_view}

-- the symbols right inside
abbrev pub symbols_inside : WrittenSymbol → Syms TextSpan
symbols_inside (Sym.expr p xs) = xs
symbols_inside (Sym.ambiguous_id p n) = Syms.none
symbols_inside (Sym.nonterminal p n) = Syms.none
symbols_inside (Sym.terminal p t) = Syms.none
symbols_inside (Sym.macro p n args) = args
symbols_inside (Sym.repeat p op x) = Syms.more x Syms.none
symbols_inside (Sym.choose p x) = Syms.more x Syms.none
symbols_inside (Sym.name p mutable n x) = Syms.more x Syms.none
symbols_inside (Sym.lookahead p) = Syms.none
symbols_inside (Sym.lookbehind p) = Syms.none
symbols_inside (Sym.error p) = Syms.none

-- how many lists are open at most on a walk from this stack on
unfoldable pub most_open : List (Syms TextSpan) → ℕ
most_open [] = 0
most_open (xs ∷ rest) = suc (max (symbols_depth xs) (most_open rest))

-- the symbols that are still to come
abbrev pub symbols_to_come : List (Syms TextSpan) → List WrittenSymbol
symbols_to_come [] = []
symbols_to_come (xs ∷ rest) = symbols_to_come rest ++ subsymbols_of xs

-- the symbols in order, as one value
abbrev pub symbols_view : List symbols.Symbol → Syms TextSpan
symbols_view xs = syms (map symbol_view xs)

-- the symbols behind a reference
abbrev pub slice_view : Bor (List symbols.Symbol) → Syms TextSpan
slice_view r = symbols_view r.now

-- the lists on a stack
abbrev pub slices_view : List (Bor (List symbols.Symbol)) → List (Syms TextSpan)
slices_view = map slice_view
