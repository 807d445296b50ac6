-- Trees beside one another, parted by how many leaves and nodes stand on a side: for lists of trees.
use Rattle.std.specs.Prelude.{ℕ, ◌≡◌, length}
use Rattle.lalrpop_lr1_theory.specs.Spans.{SpannedForest, without_spans}
use Rattle.lalrpop_lr1_theory.specs.Trees.{nodes, roots}
use Rattle.lalrpop_lr1_interpret.specs.Stacks.{◌beside◌}

-- the trees end with so many that have so many leaves and nodes together
pub record HasLastTrees (ts : SpannedForest) (count size : ℕ) : Type 0 where
  pub kept : SpannedForest
  pub children : SpannedForest
  pub parts : ts ≡ kept beside children
  pub many : length (roots (without_spans children)) ≡ count
  pub size_is : nodes (without_spans children) ≡ size

-- the trees begin with some that have so many leaves and nodes together
pub record HasFirstTrees (ts : SpannedForest) (size : ℕ) : Type 0 where
  pub first : SpannedForest
  pub others : SpannedForest
  pub parts : ts ≡ first beside others
  pub size_is : nodes (without_spans first) ≡ size
