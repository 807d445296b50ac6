use Rattle.std.proofs.Common.{◌≡◌, ℕ, length, None, get_or}
use Rattle.lalrpop_lr1_first.proofs.closure.empty_slots.Given as goal

abbrev pub invariant-loop : goal.invariant-loop
invariant-loop g l = (length l.slots.items ≡ l.counter) × ((s : ℕ) → get_or l.slots.items s None ≡ None)
