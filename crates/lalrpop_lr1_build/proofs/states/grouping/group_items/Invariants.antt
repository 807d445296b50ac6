use Rattle.std.proofs.Common.{◌≡◌, ℕ, length, take}
use Rattle.lalrpop_lr1_first.specs.FirstNumbers.{symbol_count}
use Rattle.lalrpop_lr1_build.specs.Shifts.{items_of_group, shifted_items}
use Rattle.lalrpop_lr1_build.proofs.states.grouping.group_items.Given as goal

abbrev pub invariant-loop-item : goal.invariant-loop-item
invariant-loop-item g l = (length l.groups.items ≡ symbol_count l.table)
    × ((s : ℕ) → items_of_group l.groups.items s ≡ shifted_items l.table.places.items s (take l.item-index l.items))
