use Rattle.std.proofs.Common.{◌≡◌, ◌++◌, drop}
use Rattle.lalrpop_lr1_first.specs.FirstSetsOf.{named_from}
use Rattle.lalrpop_lr1_first.specs.Listings.{lent}
use Rattle.lalrpop_lr1_first.proofs.first_sets.named_sets.Given as goal

abbrev pub invariant-loop-number : goal.invariant-loop-number
invariant-loop-number l = l.named ++ named_from l.number (drop l.number (lent l.names)) l.sets ≡ named_from 0 (lent l.names) l.sets
