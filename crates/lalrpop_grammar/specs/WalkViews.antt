-- What definitions see of a walk through a written tree.
use Rattle.std.specs.Prelude.{List, map}
use Rattle.std.specs.Borrow.{Bor}
use Rattle.lalrpop_grammar_symbols.specs.Views.{span_view, terminal_view}
use Rattle.lalrpop_grammar.specs.declared.leaves.Leaf.{Leaf}
use Rattle.lalrpop_grammar.specs.declared.tree.WrittenTree.{WrittenTree}
use Rattle.lalrpop_grammar.specs.Trees.{Token, Trees, trees}
use Rattle.lalrpop_grammar.specs.Views.{tree_view}

-- the trees behind a reference, as one list
abbrev pub list_view : Bor (List WrittenTree) → Trees
list_view f = trees (map tree_view f.now)

-- the lists on a stack
abbrev pub lists_view : List (Bor (List WrittenTree)) → List Trees
lists_view = map list_view

abbrev pub leaf_view : Leaf → Token
leaf_view l = record { terminal = terminal_view l.terminal.now; text = l.text.now; span = span_view l.span }
