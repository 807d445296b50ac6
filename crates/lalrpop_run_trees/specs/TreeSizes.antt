-- The size of a written tree: for searches in it, which have to end.
use Rattle.std.specs.Prelude.{◌+◌, ℕ, suc}
use Rattle.lalrpop_grammar.specs.Trees.{Tree, Trees}

-- how many trees stand in a tree, itself with them
abbrev mutual
  pub tree_size : Tree → ℕ
  tree_size (Tree.rule n args place ts) = suc (trees_size ts)
  tree_size (Tree.list ts) = suc (trees_size ts)
  tree_size Tree.opt_none = 1
  tree_size (Tree.opt_some t) = suc (tree_size t)
  tree_size (Tree.group ts) = suc (trees_size ts)
  tree_size (Tree.terminal k) = 1
  tree_size Tree.look = 1

  pub trees_size : Trees → ℕ
  trees_size Trees.none = 0
  trees_size (Trees.more t ts) = tree_size t + trees_size ts
