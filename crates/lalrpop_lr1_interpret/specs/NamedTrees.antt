-- Trees without productions, and what is seen of parse trees: for the contracts of interpreting.
use Rattle.std.specs.Prelude.{List, [], ◌∷◌, ◌++◌, map}
use Rattle.lalrpop_grammar_symbols.specs.Symbols.{Terminal, Text}
use Rattle.lalrpop_grammar_symbols.specs.Views.{terminal_view}
use Rattle.lalrpop_lr1_theory.specs.Trees.{Forest, leaf, node, none}
use Rattle.lalrpop_lr1_interpret.specs.declared.parse_trees.parse_tree.ParseTree.{ParseTree}
use Rattle.lalrpop_lr1_interpret.specs.declared.parse_trees.parse_tree.ParseTree.TheOpen as layer
use Rattle.lalrpop_lr1_interpret.specs.declared.parse_trees.parse_tree.ParseTree.TheFolds.{fold-ParseTree}

-- a list of trees: none; a leaf, then the others; a nonterminal over a list of trees, then the others
pub data NamedForest : Type 0 where
  no_trees : NamedForest
  named_leaf : Terminal → NamedForest → NamedForest
  named_node : Text → NamedForest → NamedForest → NamedForest

-- trees over productions without these
abbrev pub name_forest : Forest → NamedForest
name_forest none = no_trees
name_forest (leaf t ts) = named_leaf t (name_forest ts)
name_forest (node p cs ts) = named_node p.left (name_forest cs) (name_forest ts)

-- the terminals at the leaves, in order
abbrev pub named_leaves : NamedForest → List Terminal
named_leaves no_trees = []
named_leaves (named_leaf t ts) = t ∷ named_leaves ts
named_leaves (named_node n cs ts) = named_leaves cs ++ named_leaves ts

-- trees, each in front of those that follow
abbrev pub named_row : List (NamedForest → NamedForest) → NamedForest
named_row [] = no_trees
named_row (f ∷ fs) = f (named_row fs)

abbrev pub parse_tree_step : layer.ParseTree-F (NamedForest → NamedForest) → NamedForest → NamedForest
parse_tree_step (layer.Nonterminal n trees) rest = named_node n.0 (named_row trees) rest
parse_tree_step (layer.Terminal t) rest = named_leaf (terminal_view t) rest

-- a parse tree in front of others
abbrev pub parse_tree_before : ParseTree → NamedForest → NamedForest
parse_tree_before = fold-ParseTree (NamedForest → NamedForest) parse_tree_step

-- a parse tree, and a list of them
abbrev pub parse_tree_view : ParseTree → NamedForest
parse_tree_view tree = parse_tree_before tree no_trees

abbrev pub parse_tree_views : List ParseTree → NamedForest
parse_tree_views trees = named_row (map parse_tree_before trees)
