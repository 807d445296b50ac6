use Rattle.std.proofs.Common.{take}
use Rattle.std.specs.Prelude.{flat_map}
use Rattle.lalrpop_lr1_first.specs.Listings.{HoldSame, lent, lent_in, names_in_production}
use Rattle.lalrpop_lr1_first.proofs.listing.names_in.Given as goal

abbrev pub invariant-loop-production : goal.invariant-loop-production
invariant-loop-production l =
    HoldSame (lent_in l.set) (flat_map names_in_production (lent (take l.production-index l.productions)))
