use Rattle.std.proofs.Common.{◌≡◌, ℕ, length, false}
use Rattle.lalrpop_lr1_barren.specs.Clauses.{has_mark}
use Rattle.lalrpop_lr1_barren.proofs.reachable.barren.no_marks.Given as goal

abbrev pub invariant-loop : goal.invariant-loop
invariant-loop l = (length l.marks.items ≡ l.counter) × ((n : ℕ) → has_mark l.marks.items n ≡ false)
