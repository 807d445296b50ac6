use Rattle.std.proofs.Common.{map, take}
use Rattle.lalrpop_grammar_symbols.specs.Views.{symbol_view}
use Rattle.lalrpop_grammar_rules.specs.Views.{closed_view}
use Rattle.lalrpop_norm_macros.specs.KeyNaming.{AreSymbolsFor}
use Rattle.lalrpop_norm_macros.proofs.key_symbols.symbols.written_side.Given as goal

abbrev pub invariant-loop-symbol : goal.invariant-loop-symbol
invariant-loop-symbol l = AreSymbolsFor l.names (map closed_view (take l.symbol-index l.side)) (map symbol_view l.made)
