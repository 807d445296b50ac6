use Rattle.std.proofs.Common.{◌≡◌, map, take}
use Rattle.lalrpop_lr1_interpret.proofs.interpreting.indexes_of.Given as goal

abbrev pub invariant-loop-number : goal.invariant-loop-number
invariant-loop-number l = map (λ i. i.0) l.indexes.items ≡ take l.number-index l.numbers
