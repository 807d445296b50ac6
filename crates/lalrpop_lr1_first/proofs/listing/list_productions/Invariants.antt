use Rattle.std.proofs.Common.{◌≡◌, ◌++◌}
use Rattle.lalrpop_lr1_first.proofs.listing.list_productions.Given as goal

abbrev pub invariant-loop-production : goal.invariant-loop-production
invariant-loop-production l = l.listed.items ++ l.production-iterator ≡ l.set.keys
