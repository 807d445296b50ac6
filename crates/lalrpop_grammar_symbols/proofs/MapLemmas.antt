-- Lists of symbols with their names and calls replaced. For the function that replaces them.
use Rattle.std.proofs.Common.{◌≡◌, List, [], ◌∷◌, refl, ap, map}
use Rattle.lalrpop_grammar_symbols.specs.declared.symbol.Symbol as symbols
use Rattle.lalrpop_grammar_symbols.specs.SymbolMaps.{SymbolMapping, map_symbol, map_symbols}
use Rattle.lalrpop_grammar_symbols.specs.SymbolWalks.{symbols_view}
use Rattle.lalrpop_grammar_symbols.specs.Symbols.{Syms, syms}
use Rattle.lalrpop_grammar_symbols.specs.Views.{symbol_view}

-- a list is mapped symbol by symbol
pub map_symbols-each : (f : SymbolMapping) (xs : List symbols.Symbol)
    → map_symbols f (symbols_view xs) ≡ syms (map (λ s. map_symbol f (symbol_view s)) xs)
map_symbols-each f [] = refl
map_symbols-each f (x ∷ xs) = ap (λ ys. Syms.more (map_symbol f (symbol_view x)) ys) (map_symbols-each f xs)
