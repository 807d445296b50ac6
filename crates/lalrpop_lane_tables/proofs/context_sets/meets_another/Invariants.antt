use Rattle.std.proofs.Common.{ℕ, ◌<◌, ◌≡◌, List, Some, slice_get}
use Rattle.lalrpop_lane_tables.specs.ColumnAnswers.{HasToken}
use Rattle.lalrpop_lane_tables.proofs.context_sets.meets_another.Given as goal

abbrev pub invariant-loop-other : goal.invariant-loop-other
invariant-loop-other l =
    (d x : ℕ) (s : List ℕ) → d < l.other → (d ≡ l.column → ⊥) → slice_get l.columns d ≡ Some s → HasToken s x → HasToken l.set x → ⊥
