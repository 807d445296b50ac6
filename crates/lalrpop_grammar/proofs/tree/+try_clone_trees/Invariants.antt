use Rattle.std.proofs.Common.{◌≡◌, take}
use Rattle.lalrpop_grammar.proofs.tree.+try_clone_trees.Given as goal

abbrev pub invariant-clone_trees-loop-tree : goal.invariant-clone_trees-loop-tree
invariant-clone_trees-loop-tree l = l.copy ≡ take l.tree-index l.trees
