-- Trees that are opened from the right, root by root, each root's move before those of its children: for the moves of least trees.
use Rattle.std.specs.Prelude.{ℕ, ◌+◌, Bool, List, ◌++◌, length, reverse, ◌≡◌, Option, Some, None, slice_get, slice_index_or}
use Rattle.lalrpop_lr1_least_trees.specs.declared.least_counts.counts.LeastTree.{LeastTree}
use Rattle.lalrpop_lr1_least_trees.specs.declared.least_counts.rule.NumberMove.{NumberMove}
use Rattle.lalrpop_lr1_least_trees.specs.declared.least_counts.rule.NumberMove.TheVariants.{Shift, Reduce}
use Rattle.lalrpop_lr1_least_trees.specs.NumberedTrees.{Builds, NumberRule}
use Rattle.lalrpop_lr1_least_trees.specs.Searches.{count_of, sum_of}

-- the entry at a symbol, none at one that is no name
abbrev pub entry_at : List (Option LeastTree) → ℕ → Option LeastTree
entry_at table s = slice_index_or table s None

-- each entry's rule is there
abbrev pub HaveRules : List NumberRule → List (Option LeastTree) → Type 0
HaveRules rules table = (s : ℕ) (tree : LeastTree) → entry_at table s ≡ Some tree → (rule : NumberRule) ×
    (slice_get rules tree.rule ≡ Some rule)

-- A name's tree is opened by its rule: what stands on the right side is open then.
pub record IsOpenedBy (rules : List NumberRule) (table : List (Option LeastTree)) (symbol r : ℕ) (old new : List ℕ) : Type 0 where
  pub tree : LeastTree
  pub rule : NumberRule
  pub entry : entry_at table symbol ≡ Some tree
  pub is : tree.rule ≡ r
  pub at : slice_get rules r ≡ Some rule
  pub opened : new ≡ old ++ rule.right

abbrev pub IsOpened : List NumberRule → List (Option LeastTree) → ℕ → List ℕ → NumberMove → List ℕ → Type 0
IsOpened rules table symbol old (Shift s) new = (s ≡ symbol) × (entry_at table symbol ≡ None) × (new ≡ old)
IsOpened rules table symbol old (Reduce r) new = IsOpenedBy rules table symbol r old new

-- Trees with the symbols at their roots, and so many leaves and nodes, are opened: the moves are the last ones, backwards, and what
-- builds those that are open builds all with them.
pub record AreOpening (rules : List NumberRule) (names : ℕ) (leaves : Bool) (table : List (Option LeastTree)) (symbols : List ℕ)
    (count : ℕ) (pending : List ℕ) (moves : List NumberMove) : Type 0 where
  pub left : ℕ
  pub is : sum_of (count_of leaves table) pending ≡ Some left
  pub count_is : left + length moves ≡ count
  pub builds : (rest : List NumberMove) → Builds rules names leaves pending rest → Builds rules names leaves symbols
      (rest ++ reverse moves)
