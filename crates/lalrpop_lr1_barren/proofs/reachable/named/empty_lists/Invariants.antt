use Rattle.std.proofs.Common.{◌≡◌, ℕ, [], length}
use Rattle.std.specs.Prelude.{slice_index_or}
use Rattle.lalrpop_lr1_barren.specs.NamedLists.{production_lists}
use Rattle.lalrpop_lr1_barren.proofs.reachable.named.empty_lists.Given as goal

abbrev pub invariant-loop : goal.invariant-loop
invariant-loop l = (length l.lists.items ≡ l.counter) × ((s : ℕ) → slice_index_or (production_lists l.lists.items) s [] ≡ [])
