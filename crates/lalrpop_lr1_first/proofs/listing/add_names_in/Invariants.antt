use Rattle.std.proofs.Common.{take}
use Rattle.std.specs.Prelude.{flat_map}
use Rattle.lalrpop_lr1_first.specs.Listings.{AddsTo, lent_in, symbol_names}
use Rattle.lalrpop_lr1_first.proofs.listing.add_names_in.Given as goal

abbrev pub invariant-loop-symbol : goal.invariant-loop-symbol
invariant-loop-symbol l = AddsTo (lent_in l.fn.set) (lent_in l.set) (flat_map symbol_names (take l.symbol-index l.symbols))
