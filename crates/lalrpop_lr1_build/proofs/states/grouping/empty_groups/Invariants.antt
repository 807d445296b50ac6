use Rattle.std.proofs.Common.{◌≡◌, ℕ, length, []}
use Rattle.lalrpop_lr1_build.specs.Shifts.{items_of_group}
use Rattle.lalrpop_lr1_build.proofs.states.grouping.empty_groups.Given as goal

abbrev pub invariant-loop : goal.invariant-loop
invariant-loop g l = (length l.groups.items ≡ l.counter) × ((s : ℕ) → items_of_group l.groups.items s ≡ [])
