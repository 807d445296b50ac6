-- The roots that stand on the stack of the walk, as the definitions see them.
use Rattle.std.specs.Prelude.{List, map}
use Rattle.lalrpop_grammar_symbols.specs.Views.{terminal_view}
use Rattle.lalrpop_lr1_theory.specs.Productions.{nonterminal, terminal}
use Rattle.lalrpop_judge.specs.EntryMoves.{Root}
use Rattle.lalrpop_judge.specs.declared.certificates.root.TreeRoot.{TreeRoot}
use Rattle.lalrpop_judge.specs.declared.certificates.root.TreeRoot.TheVariants as roots

abbrev pub tree_root_view : TreeRoot → Root
tree_root_view (roots.Leaf t) = record { symbol = terminal (terminal_view t.now); size = 1 }
tree_root_view (roots.Node p size) = record { symbol = nonterminal p.now.nonterminal.0; size = size }

abbrev pub tree_root_views : List TreeRoot → List Root
tree_root_views rs = map tree_root_view rs
