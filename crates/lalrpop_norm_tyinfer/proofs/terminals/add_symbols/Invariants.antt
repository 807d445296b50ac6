use Rattle.std.proofs.Common.{◌≡◌, ◌++◌, drop, map}
use Rattle.lalrpop_grammar_symbols.specs.Views.{symbol_view}
use Rattle.lalrpop_norm_tyinfer.specs.TerminalTypes.{found_terminals, terminals_of_symbols}
use Rattle.lalrpop_norm_tyinfer.proofs.terminals.add_symbols.Given as goal

abbrev pub invariant-loop-symbol : goal.invariant-loop-symbol
invariant-loop-symbol l =
    found_terminals l.found.items ++ terminals_of_symbols (map symbol_view (drop l.symbol-index l.symbols))
    ≡ found_terminals l.fn.found.items ++ terminals_of_symbols (map symbol_view l.symbols)
