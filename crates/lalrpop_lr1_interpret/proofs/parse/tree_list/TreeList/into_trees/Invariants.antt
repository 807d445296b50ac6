use Rattle.std.proofs.Common.{◌≡◌, length, reverse}
use Rattle.lalrpop_lr1_theory.specs.Spans.{without_spans}
use Rattle.lalrpop_lr1_theory.specs.Trees.{roots}
use Rattle.lalrpop_lr1_interpret.specs.ExpandedViews.{expanded_views, listed_views}
use Rattle.lalrpop_lr1_interpret.specs.Stacks.{◌beside◌}
use Rattle.lalrpop_lr1_interpret.proofs.parse.tree_list.TreeList.into_trees.Given as goal

abbrev pub invariant-loop-trees : goal.invariant-loop-trees
invariant-loop-trees l = listed_views l.list beside expanded_views (reverse l.trees.items) ≡ listed_views l.fn.self

abbrev pub decreases-loop-trees : goal.decreases-loop-trees
decreases-loop-trees l = length (roots (without_spans (listed_views l.list)))
