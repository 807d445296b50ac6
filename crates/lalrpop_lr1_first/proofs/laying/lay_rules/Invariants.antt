use Rattle.std.proofs.Common.{take}
use Rattle.lalrpop_lr1_first.specs.Listings.{lent}
use Rattle.lalrpop_lr1_first.specs.Tables.{AreLaid}
use Rattle.lalrpop_lr1_first.proofs.laying.lay_rules.Given as goal

abbrev pub invariant-loop-production : goal.invariant-loop-production
invariant-loop-production l =
    AreLaid (lent l.names.listed.items) l.terminals (lent (take l.production-index l.productions)) l.rules.items l.places.items
