-- Trees without productions, computed.
use Rattle.std.proofs.Common.{◌≡◌, [], ◌∷◌, refl}
use Rattle.lalrpop_grammar_symbols.specs.Symbols.{Terminal}
use Rattle.lalrpop_lr1_theory.specs.Productions.{Production, terminal}
use Rattle.lalrpop_lr1_theory.specs.Spans.{SpannedForest, leaf_at, node_at, none_at, without_spans}
use Rattle.lalrpop_lr1_interpret.specs.Stacks.{◌beside◌}
use Rattle.lalrpop_lr1_interpret.specs.NamedTrees.{name_forest, named_leaf, named_leaves, named_node, no_trees}

-- a terminal for the examples: the regular expression of the digit 1
abbrev one : Terminal
one = Terminal.regex (49 ∷ [])

-- `N = r"1"`
abbrev number : Production
number = record { left = 78 ∷ []; right = terminal one ∷ []; action = 0; from = 0; to = 1 }

abbrev a_leaf : SpannedForest
a_leaf = leaf_at one (2, 3) none_at

abbrev a_node : SpannedForest
a_node = node_at number a_leaf none_at

-- a tree without productions, and its leaves
without_productions : name_forest (without_spans a_node) ≡ named_node (78 ∷ []) (named_leaf one no_trees) no_trees
without_productions = refl

leaves_without_productions : named_leaves (name_forest (without_spans (a_node beside a_leaf))) ≡ one ∷ one ∷ []
leaves_without_productions = refl
