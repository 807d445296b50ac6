use Rattle.std.proofs.Common.{◌≡◌, ◌<◌, ◌≤◌, ℕ, Some, slice_get}
use Rattle.lalrpop_lr1_interpret.proofs.parse.action_table.place_of.Given as goal

abbrev pub invariant-loop-place : goal.invariant-loop-place
invariant-loop-place l = (place : ℕ) → l.fn.part.first ≤ place → place < l.place → slice_get l.keys place ≡ Some l.key → ⊥
