use Rattle.std.proofs.Common.{map, sym, ap, ◌∙◌, arith}
use Rattle.std.proofs.lemmas.List.{take_all}
use Rattle.lalrpop_grammar_symbols.specs.SymbolMaps.{map_symbol}
use Rattle.lalrpop_grammar_symbols.specs.Symbols.{syms}
use Rattle.lalrpop_grammar_symbols.specs.Views.{symbol_view}
use Rattle.lalrpop_grammar_symbols.proofs.MapLemmas.{map_symbols-each}
use Rattle.lalrpop_grammar_symbols.proofs.+map.Goals as goal

pub symbol_map::map_all-returns-clause-value : goal.symbol_map::map_all-returns-clause-value
symbol_map::map_all-returns-clause-value g t c =
    let f = g.F.SymbolMap.mapping c.args.map.now in
    let all = take_all c.loop-symbol.symbol-index c.args.symbols.now (omega (arith, c.loop-symbol-test.false)) in
    ap syms (c.loop-symbol.invariant.value ∙ ap (map (λ s. map_symbol f (symbol_view s))) all)
    ∙ sym (map_symbols-each f c.args.symbols.now)
