use Rattle.std.proofs.Common.{◌≡◌, map, take}
use Rattle.lalrpop_grammar_symbols.specs.SymbolMaps.{map_symbol}
use Rattle.lalrpop_grammar_symbols.specs.Views.{symbol_view}
use Rattle.lalrpop_grammar_symbols.proofs.+map.Given as goal

abbrev pub invariant-symbol_map::map_all-loop-symbol : goal.invariant-symbol_map::map_all-loop-symbol
invariant-symbol_map::map_all-loop-symbol g l = record {
  same : g.F.SymbolMap.mapping l.map ≡ g.F.SymbolMap.mapping l.initial.map;
  value : map symbol_view l.mapped
      ≡ map (λ s. map_symbol (g.F.SymbolMap.mapping l.initial.map) (symbol_view s)) (take l.symbol-index l.symbols);
}
