use Rattle.std.proofs.Common.{◌≡◌, ℕ, length, []}
use Rattle.lalrpop_lr1_first.specs.Numbers.{set_of_number}
use Rattle.lalrpop_lr1_first.proofs.first_of.empty_sets.Given as goal

abbrev pub invariant-loop : goal.invariant-loop
invariant-loop l = (length l.sets.items ≡ l.counter) × ((s : ℕ) → set_of_number l.sets.items s ≡ [])
