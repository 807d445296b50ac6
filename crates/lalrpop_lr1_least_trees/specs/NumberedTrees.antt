-- Trees by rules over numbers, as the moves that build them from the left: for least trees.
use Rattle.std.specs.Prelude.{ℕ, ◌<◌, ◌≤◌, Bool, true, List, [], ◌∷◌, ◌++◌, map, ◌≡◌, Some, slice_get}
use Rattle.lalrpop_lr1_least_trees.specs.declared.least_counts.rule.NumberMove.{NumberMove}
use Rattle.lalrpop_lr1_least_trees.specs.declared.least_counts.rule.NumberMove.TheVariants.{Shift, Reduce}
use Rattle.lalrpop_lr1_least_trees.specs.declared.least_counts.rule.Rule.{Rule}

-- a rule: its name, and the symbols on its right side
pub record NumberRule : Type 0 where
  pub left : ℕ
  pub right : List ℕ

abbrev pub rule_view : Rule → NumberRule
rule_view rule = record { left = rule.left; right = rule.right.items }

abbrev pub rule_views : List Rule → List NumberRule
rule_views rules = map rule_view rules

-- the rules are for names below the count
abbrev pub NamesAreBelow : ℕ → List NumberRule → Type 0
NamesAreBelow names rules = (r : ℕ) (rule : NumberRule) → slice_get rules r ≡ Some rule → rule.left < names

-- The moves build trees with these symbols at their roots: for a terminal, where leaves are let, its shift; for a name, what builds
-- the right side of a rule of its own, and the reduction by it.
pub data Builds (rules : List NumberRule) (names : ℕ) (leaves : Bool) : List ℕ → List NumberMove → Type 0 where
  nothing : Builds rules names leaves [] []
  shifts : (s : ℕ) {ss : List ℕ} {ms : List NumberMove} → leaves ≡ true → names ≤ s → Builds rules names leaves ss ms →
      Builds rules names leaves (s ∷ ss) (Shift s ∷ ms)
  reduces : (r : ℕ) (rule : NumberRule) {ss : List ℕ} {ms ns : List NumberMove} → slice_get rules r ≡ Some rule →
      Builds rules names leaves rule.right ms → Builds rules names leaves ss ns →
      Builds rules names leaves (rule.left ∷ ss) (ms ++ Reduce r ∷ ns)
