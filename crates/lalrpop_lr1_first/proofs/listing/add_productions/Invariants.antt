use Rattle.std.proofs.Common.{take}
use Rattle.lalrpop_lr1_first.specs.Listings.{AddsTo, lent_in}
use Rattle.lalrpop_lr1_first.proofs.listing.add_productions.Given as goal

abbrev pub invariant-loop-production : goal.invariant-loop-production
invariant-loop-production l = AddsTo (lent_in l.fn.set) (lent_in l.set) (take l.production-index l.productions)
