use Rattle.std.proofs.Common.{◌≡◌, ◌++◌, drop, map}
use Rattle.lalrpop_grammar_symbols.specs.Views.{symbol_view}
use Rattle.lalrpop_norm_lower.specs.LoweredSymbols.{lowered_side, named_symbol}
use Rattle.lalrpop_norm_lower.proofs.symbols.lower_symbols.Given as goal

abbrev pub invariant-loop-symbol : goal.invariant-loop-symbol
invariant-loop-symbol l =
    map named_symbol l.side ++ lowered_side (map symbol_view (drop l.symbol-index l.symbols))
    ≡ lowered_side (map symbol_view l.symbols)
