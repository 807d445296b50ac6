use Rattle.std.proofs.Common.{◌≡◌, ◌<◌, ℕ, length}
use Rattle.lalrpop_sets.specs.AscendingLists.{has}
use Rattle.lalrpop_lr1_first.specs.FirstNumbers.{table_end}
use Rattle.lalrpop_lr1_first.specs.Numbers.{says, set_of_number}
use Rattle.lalrpop_lr1_first.specs.Tables.{rest_of}
use Rattle.lalrpop_lr1_first.proofs.first_of.place_firsts.Given as goal

abbrev pub invariant-loop-place : goal.invariant-loop-place
invariant-loop-place l =
    (length l.rests.items ≡ l.place)
    × ((i : ℕ) → i < l.place → (k : ℕ) → has (set_of_number l.rests.items i) k ≡ says l.sets (table_end l.table)
    (rest_of l.table.places.items i) k)
