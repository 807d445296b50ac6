use Rattle.std.proofs.Common.{◌≡◌, ◌++◌, drop}
use Rattle.lalrpop_lr1_first.specs.Listings.{lent}
use Rattle.lalrpop_lr1_first.specs.Tables.{pairs_from}
use Rattle.lalrpop_lr1_least_trees.proofs.name_numbers.numbers_of.Given as goal

abbrev pub invariant-loop-number : goal.invariant-loop-number
invariant-loop-number l = l.numbers ++ pairs_from l.number (drop l.number (lent l.names)) ≡ pairs_from 0 (lent l.names)
