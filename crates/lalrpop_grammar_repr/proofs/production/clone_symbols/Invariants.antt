use Rattle.std.proofs.Common.{◌≡◌, take}
use Rattle.lalrpop_grammar_repr.proofs.production.clone_symbols.Given as goal

abbrev pub invariant-loop-symbol : goal.invariant-loop-symbol
invariant-loop-symbol l = l.copy ≡ take l.symbol-index l.symbols
