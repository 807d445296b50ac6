use Rattle.std.proofs.Common.{◌≡◌, length}
use Rattle.std.specs.Vec.Iter.{into_iter_items, into_iter_len}
use Rattle.lalrpop_lr1_interpret.specs.ExpandedViews.{expanded_views}
use Rattle.lalrpop_lr1_interpret.specs.MoveOrders.{HasTreeSizes, trees_of}
use Rattle.lalrpop_lr1_interpret.specs.Stacks.{◌beside◌}
use Rattle.lalrpop_lr1_interpret.specs.TreeEntries.{tree_entry_views}
use Rattle.lalrpop_lr1_interpret.proofs.parse.expanded_tree.ExpandedTree.join.Given as goal

abbrev pub invariant-loop-tree : goal.invariant-loop-tree
invariant-loop-tree l =
    HasTreeSizes (tree_entry_views l.entries.items)
    × (trees_of (tree_entry_views l.entries.items) beside expanded_views (into_iter_items l.tree-iterator)
    ≡ expanded_views l.fn.trees.items)
    × (into_iter_len l.tree-iterator ≡ length (into_iter_items l.tree-iterator))
