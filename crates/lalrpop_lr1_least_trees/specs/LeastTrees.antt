-- What a table of least trees says, for each name: how many leaves and nodes its least tree has, and the rule at its root.
use Rattle.std.specs.Prelude.{ℕ, suc, ◌≤◌, ◌-◌, ◌^◌, Bool, List, [], ◌∷◌, length, min, ◌≡◌, Option}
use Rattle.std.specs.Prelude.{Some, None, slice_get}
use Rattle.lalrpop_lr1_least_trees.specs.declared.least_counts.counts.LeastTree.{LeastTree}
use Rattle.lalrpop_lr1_least_trees.specs.declared.least_counts.rule.NumberMove.{NumberMove}
use Rattle.lalrpop_lr1_least_trees.specs.NumberedTrees.{Builds, NumberRule}

-- a number as it is counted: itself, or the greatest number where it is more
abbrev pub capped_count : ℕ → ℕ
capped_count n = min n (2 ^ 64 - 1)

-- Some tree of the name has the rule at its root, and so many leaves and nodes, as they are counted: one for each of its moves.
pub record IsBuilt (rules : List NumberRule) (names : ℕ) (leaves : Bool) (s : ℕ) (tree : LeastTree) : Type 0 where
  pub rule : NumberRule
  pub moves : List NumberMove
  pub at : slice_get rules tree.rule ≡ Some rule
  pub left : rule.left ≡ s
  pub builds : Builds rules names leaves rule.right moves
  pub count : capped_count (suc (length moves)) ≡ tree.count

-- some tree has so many, and none has fewer
pub record IsLeastTree (rules : List NumberRule) (names : ℕ) (leaves : Bool) (s : ℕ) (tree : LeastTree) : Type 0 where
  pub built : IsBuilt rules names leaves s tree
  pub least : (ms : List NumberMove) → Builds rules names leaves (s ∷ []) ms → tree.count ≤ length ms

-- the name's least tree; none where it has no tree
abbrev pub IsLeast : List NumberRule → ℕ → Bool → ℕ → Option LeastTree → Type 0
IsLeast rules names leaves s None = (ms : List NumberMove) → Builds rules names leaves (s ∷ []) ms → ⊥
IsLeast rules names leaves s (Some tree) = IsLeastTree rules names leaves s tree

-- the table has one entry for each name, and it says which tree is least
pub record AreLeast (rules : List NumberRule) (names : ℕ) (leaves : Bool) (table : List (Option LeastTree)) : Type 0 where
  pub count : length table ≡ names
  pub least : (s : ℕ) (entry : Option LeastTree) → slice_get table s ≡ Some entry → IsLeast rules names leaves s entry

-- the moves build trees with the symbols at their roots, and no fewer moves do
pub record BuildLeast (rules : List NumberRule) (names : ℕ) (leaves : Bool) (ss : List ℕ) (moves : List NumberMove) : Type 0 where
  pub builds : Builds rules names leaves ss moves
  pub least : (ms : List NumberMove) → Builds rules names leaves ss ms → length moves ≤ length ms

-- least moves, or none where no moves build such trees
abbrev pub AreLeastMoves : List NumberRule → ℕ → Bool → List ℕ → Option (List NumberMove) → Type 0
AreLeastMoves rules names leaves ss None = (ms : List NumberMove) → Builds rules names leaves ss ms → ⊥
AreLeastMoves rules names leaves ss (Some moves) = BuildLeast rules names leaves ss moves
