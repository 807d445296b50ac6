use Rattle.std.proofs.Common.{◌≡◌, ℕ, length, false}
use Rattle.std.specs.Prelude.{slice_index_or}
use Rattle.lalrpop_lr1_least_trees.proofs.least_counts.waiting.Worklist.none.Given as goal

abbrev pub invariant-loop : goal.invariant-loop
invariant-loop l = (length l.waits.items ≡ l.counter) × ((r : ℕ) → slice_index_or l.waits.items r false ≡ false)
