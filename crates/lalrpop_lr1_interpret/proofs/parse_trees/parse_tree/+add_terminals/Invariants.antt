use Rattle.std.proofs.Common.{◌≡◌, ◌++◌, map, take}
use Rattle.lalrpop_grammar_symbols.specs.Views.{terminal_view}
use Rattle.lalrpop_lr1_interpret.specs.NamedTrees.{named_leaves, parse_tree_views}
use Rattle.lalrpop_lr1_interpret.proofs.parse_trees.parse_tree.+add_terminals.Given as goal

abbrev pub invariant-add_all_terminals-loop-tree : goal.invariant-add_all_terminals-loop-tree
invariant-add_all_terminals-loop-tree l =
    map terminal_view l.terminals.items
    ≡ map terminal_view l.initial.terminals.items ++ named_leaves (parse_tree_views (take l.tree-index l.trees))
