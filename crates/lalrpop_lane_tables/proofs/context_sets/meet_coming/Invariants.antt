use Rattle.std.proofs.Common.{ℕ, ◌<◌, ◌≡◌, ◌⊎◌, List, Some, slice_get}
use Rattle.lalrpop_lane_theory.specs.Columns.{MeetsAnother}
use Rattle.lalrpop_lane_tables.specs.ColumnAnswers.{HasToken}
use Rattle.lalrpop_lane_tables.proofs.context_sets.meet_coming.Given as goal

abbrev pub invariant-loop-index : goal.invariant-loop-index
invariant-loop-index l =
    (i : ℕ) (tokens : List ℕ) → i < l.index → slice_get l.others i ≡ Some tokens →
    (MeetsAnother HasToken l.columns i tokens ⊎ MeetsAnother HasToken l.others i tokens) → ⊥
