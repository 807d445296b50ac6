use Rattle.std.proofs.Common.{◌≡◌, ◌++◌, map}
use Rattle.lalrpop_grammar.specs.Trees.{leaves}
use Rattle.lalrpop_grammar.specs.Views.{token_view, tree_view}
use Rattle.lalrpop_grammar.specs.Leaves.{tokens_left}
use Rattle.lalrpop_grammar.proofs.tree.WrittenTree.tokens.Given as goal

abbrev pub invariant-loop-leaf : goal.invariant-loop-leaf
invariant-loop-leaf l = map token_view l.tokens.items ++ tokens_left l.leaf-iterator ≡ leaves (tree_view l.self)
