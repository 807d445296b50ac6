use Rattle.std.proofs.Common.{◌≡◌, ℕ, [], take}
use Rattle.lalrpop_lr1_build.specs.Shifts.{shifted_items}
use Rattle.lalrpop_lr1_build.proofs.states.grouping.moves_nothing.Given as goal

abbrev pub invariant-loop-item : goal.invariant-loop-item
invariant-loop-item g l = (s : ℕ) → shifted_items l.table.places.items s (take l.item-index l.items) ≡ []
