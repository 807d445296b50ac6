-- What lists of entries are to the trees that are seen: for the laws on expanded trees.
use Rattle.std.specs.Prelude.{List, ◌≡◌, length, map}
use Rattle.lalrpop_lr1_theory.specs.Spans.{SpannedForest, without_spans}
use Rattle.lalrpop_lr1_theory.specs.Trees.{moves, roots}
use Rattle.lalrpop_lr1_interpret.specs.ExpandedViews.{expanded_view}
use Rattle.lalrpop_lr1_interpret.specs.MoveOrders.{Entry, IsMoveOrder, tree_entries, label_move, trees_of}
use Rattle.lalrpop_lr1_interpret.specs.TreeEntries.{tree_entry_views}
use Rattle.lalrpop_lr1_interpret.specs.declared.parse.expanded_tree.ExpandedTree.{ExpandedTree}

-- the moves of the tree that is seen are those of the labels in the list, in its order
abbrev pub MovesAreEntries : Type 0
MovesAreEntries = (tree : ExpandedTree) →
    moves (without_spans (expanded_view tree)) ≡ map (λ e. label_move e.label) (tree_entry_views tree.entries.items)

-- the list is that of these trees, which are one tree
abbrev pub IsListOfTree : List Entry → SpannedForest → Type 0
IsListOfTree es ts = (tree_entries ts ≡ es) × (length (roots (without_spans ts)) ≡ 1)

-- a list in move order is one tree's, and no other's; each tree's list is in move order
abbrev pub ListsAreTrees : Type 0
ListsAreTrees = ((es : List Entry) → IsMoveOrder es → IsListOfTree es (trees_of es))
    × ((es : List Entry) (ts : SpannedForest) → IsListOfTree es ts → IsMoveOrder es × (ts ≡ trees_of es))
