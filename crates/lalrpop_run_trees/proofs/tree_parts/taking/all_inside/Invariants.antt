use Rattle.std.proofs.Common.{◌≡◌, ◌<◌, ℕ, map, take}
use Rattle.lalrpop_grammar.specs.Trees.{trees}
use Rattle.lalrpop_run_trees.specs.PartViews.{AllInside, shown_part, shown_tree}
use Rattle.lalrpop_run_trees.specs.TreeSizes.{trees_size}
use Rattle.lalrpop_run_trees.proofs.tree_parts.taking.all_inside.Given as goal

-- the parts are these trees up to here
abbrev pub invariant-loop-tree : goal.invariant-loop-tree
invariant-loop-tree l = record {
  parts_are : map shown_part l.parts.items ≡ map shown_tree (take l.tree-index l.elements);
  inside : (size : ℕ) → trees_size (trees (map shown_tree l.elements)) < size → AllInside size l.parts.items;
}
