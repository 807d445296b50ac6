use Rattle.std.proofs.Common.{◌≡◌, ◌++◌, take}
use Rattle.lalrpop_lr1_inline.proofs.records.add_symbols.Given as goal

abbrev pub invariant-loop-symbol : goal.invariant-loop-symbol
invariant-loop-symbol l = l.side ≡ l.fn.side ++ take l.symbol-index l.symbols
