use Rattle.std.proofs.Common.{◌≡◌, take}
use Rattle.lalrpop_grammar_symbols.proofs.symbol.+try_clone.Given as goal

abbrev pub invariant-clone_symbols-loop-symbol : goal.invariant-clone_symbols-loop-symbol
invariant-clone_symbols-loop-symbol l = l.copy ≡ take l.symbol-index l.symbols
