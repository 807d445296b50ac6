-- Trees as one list: their moves in order, each with how many leaves and nodes its subtree has. For what expanded trees are made of.
use Rattle.std.specs.Prelude.{ℕ, suc, ◌-◌, leb, cond, List, [], ◌∷◌, ◌++◌, ◌≡◌, length, map}
use Rattle.lalrpop_grammar_symbols.specs.Symbols.{Terminal, TextSpan}
use Rattle.lalrpop_lr1_theory.specs.Productions.{Production}
use Rattle.lalrpop_lr1_theory.specs.Trees.{Move, nodes, reduce, roots, shift}
use Rattle.lalrpop_lr1_theory.specs.Spans.{SpannedForest, leaf_at, node_at, none_at, without_spans}
use Rattle.lalrpop_lr1_interpret.specs.Stacks.{◌beside◌}

-- what a leaf or a node is, whatever stands below
pub data EntryLabel : Type 0 where
  leaf_label : Terminal → TextSpan → EntryLabel
  node_label : Production → EntryLabel

-- a leaf or a node in the list of its tree, with the number of entries of its subtree, itself included
pub record Entry : Type 0 where
  pub label : EntryLabel
  pub size : ℕ

-- its move
abbrev pub label_move : EntryLabel → Move
label_move (leaf_label t span) = shift t
label_move (node_label p) = reduce p

-- the entries of trees: children before their node, the first child first, a root last
abbrev pub tree_entries : SpannedForest → List Entry
tree_entries none_at = []
tree_entries (leaf_at t span ts) = record { label = leaf_label t span; size = 1 } ∷ tree_entries ts
tree_entries (node_at p cs ts) =
    tree_entries cs ++ record { label = node_label p; size = suc (nodes (without_spans cs)) } ∷ tree_entries ts

-- the last of the trees, as many as have at most so many leaves and nodes together
abbrev pub last_trees : ℕ → SpannedForest → SpannedForest
last_trees n none_at = none_at
last_trees n (leaf_at t span ts) = cond (leb (suc (nodes (without_spans ts))) n) (leaf_at t span ts) (last_trees n ts)
last_trees n (node_at p cs ts) =
    cond (leb (nodes (without_spans (node_at p cs ts))) n) (node_at p cs ts) (last_trees n ts)

-- the trees before these
abbrev pub first_trees : ℕ → SpannedForest → SpannedForest
first_trees n none_at = none_at
first_trees n (leaf_at t span ts) =
    cond (leb (suc (nodes (without_spans ts))) n) none_at (leaf_at t span (first_trees n ts))
first_trees n (node_at p cs ts) =
    cond (leb (nodes (without_spans (node_at p cs ts))) n) none_at (node_at p cs (first_trees n ts))

-- one entry more: a leaf beside the trees, or a node over the last of them, whose leaves and nodes its size counts
abbrev pub with_label : SpannedForest → EntryLabel → ℕ → SpannedForest
with_label ts (leaf_label t span) n = ts beside leaf_at t span none_at
with_label ts (node_label p) n = first_trees (n - 1) ts beside node_at p (last_trees (n - 1) ts) none_at

-- the trees that these are with the entries behind them
abbrev pub trees_after : SpannedForest → List Entry → SpannedForest
trees_after ts [] = ts
trees_after ts (e ∷ es) = trees_after (with_label ts e.label e.size) es

-- the trees of a list
abbrev pub trees_of : List Entry → SpannedForest
trees_of es = trees_after none_at es

-- each size is that of the subtree
abbrev pub HasTreeSizes : List Entry → Type 0
HasTreeSizes es = map (λ e. e.size) (tree_entries (trees_of es)) ≡ map (λ e. e.size) es

-- the list is one tree's, its moves in order, with the sizes of their subtrees
abbrev pub IsMoveOrder : List Entry → Type 0
IsMoveOrder es = HasTreeSizes es × (length (roots (without_spans (trees_of es))) ≡ 1)
