-- Expanded trees as the theory of tables sees them, and what is seen from a root: for the contracts of trees and of parsing.
use Rattle.std.specs.Prelude.{ℕ, zero, suc, List, [], ◌∷◌, Option, Some, None}
use Rattle.lalrpop_grammar_symbols.specs.Symbols.{Terminal, TextSpan}
use Rattle.lalrpop_lr1_theory.specs.Productions.{Production}
use Rattle.lalrpop_lr1_theory.specs.Spans.{SpannedForest, leaf_at, node_at, none_at}
use Rattle.lalrpop_lr1_interpret.specs.MoveOrders.{EntryLabel, leaf_label, node_label, trees_of}
use Rattle.lalrpop_lr1_interpret.specs.Stacks.{◌beside◌}
use Rattle.lalrpop_lr1_interpret.specs.TreeEntries.{tree_entry_views}
use Rattle.lalrpop_lr1_interpret.specs.declared.parse.tree_list.TreeList.{TreeList}
use Rattle.lalrpop_lr1_interpret.specs.declared.parse.expanded_tree.ExpandedTree.{ExpandedTree}
use Rattle.lalrpop_lr1_interpret.specs.declared.parse.tree_ref.TreeRef.{TreeRef}
use Rattle.lalrpop_lr1_interpret.specs.declared.parse.tree_ref.TreeRefs.{TreeRefs}

-- a tree: the one whose moves its list has
abbrev pub expanded_view : ExpandedTree → SpannedForest
expanded_view tree = trees_of (tree_entry_views tree.entries.items)

-- trees, in order
abbrev pub expanded_views : List ExpandedTree → SpannedForest
expanded_views [] = none_at
expanded_views (t ∷ ts) = expanded_view t beside expanded_views ts

-- a tree that is lent, and trees that are
abbrev pub lent_view : TreeRef → SpannedForest
lent_view tree = trees_of (tree_entry_views tree.entries.now)

abbrev pub lent_views : TreeRefs → SpannedForest
lent_views trees = trees_of (tree_entry_views trees.entries.now)

-- trees in one list
abbrev pub listed_views : TreeList → SpannedForest
listed_views list = trees_of (tree_entry_views list.entries.items)

-- of the first of the trees: what stands at its root
abbrev pub root_label : SpannedForest → Option EntryLabel
root_label none_at = None
root_label (leaf_at t span ts) = Some (leaf_label t span)
root_label (node_at p cs ts) = Some (node_label p)

-- of the first of the trees: its production, its terminal and span, its children
abbrev pub root_production : SpannedForest → Option Production
root_production none_at = None
root_production (leaf_at t span ts) = None
root_production (node_at p cs ts) = Some p

abbrev pub root_terminal : SpannedForest → Option Terminal
root_terminal none_at = None
root_terminal (leaf_at t span ts) = Some t
root_terminal (node_at p cs ts) = None

abbrev pub root_span : SpannedForest → Option TextSpan
root_span none_at = None
root_span (leaf_at t span ts) = Some span
root_span (node_at p cs ts) = None

abbrev pub root_children : SpannedForest → SpannedForest
root_children none_at = none_at
root_children (leaf_at t span ts) = none_at
root_children (node_at p cs ts) = cs

-- the tree at a place
abbrev pub nth_tree : SpannedForest → ℕ → Option SpannedForest
nth_tree none_at n = None
nth_tree (leaf_at t span ts) zero = Some (leaf_at t span none_at)
nth_tree (leaf_at t span ts) (suc n) = nth_tree ts n
nth_tree (node_at p cs ts) zero = Some (node_at p cs none_at)
nth_tree (node_at p cs ts) (suc n) = nth_tree ts n
