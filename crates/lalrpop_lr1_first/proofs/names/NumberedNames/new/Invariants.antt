use Rattle.std.proofs.Common.{◌≡◌, ◌++◌, length}
use Rattle.lalrpop_lr1_first.specs.Listings.{lent}
use Rattle.lalrpop_lr1_first.specs.Tables.{pairs_from}
use Rattle.lalrpop_lr1_first.proofs.names.NumberedNames.new.Given as goal

abbrev pub invariant-loop-name : goal.invariant-loop-name
invariant-loop-name l =
    (l.listed.items ++ l.name-iterator ≡ l.set.keys)
    × (l.numbers ++ pairs_from (length l.listed.items) (lent l.name-iterator) ≡ pairs_from 0 (lent l.set.keys))
