use Rattle.std.proofs.Common.{take}
use Rattle.lalrpop_lr1_first.specs.Listings.{lent}
use Rattle.lalrpop_lr1_first.specs.Tables.{LaysSymbols}
use Rattle.lalrpop_lr1_first.proofs.laying.lay_symbols.Given as goal

abbrev pub invariant-loop-symbol : goal.invariant-loop-symbol
invariant-loop-symbol l =
    LaysSymbols (lent l.names.listed.items) l.terminals l.fn.places.items l.places.items (take l.symbol-index l.symbols)
