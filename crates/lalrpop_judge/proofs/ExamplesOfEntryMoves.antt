-- Computed examples of the roots that a list's trees have: of a leaf beside a node; behind them a leaf, a node over the last two, one over
-- none; and no node over others, of another size, or by a production that the grammar lacks.
use Rattle.std.proofs.Common.{◌≡◌, List, [], ◌∷◌, refl, ap, arith, length, Contains}
use Rattle.lalrpop_grammar_symbols.specs.Symbols.{Terminal}
use Rattle.lalrpop_lr1_theory.specs.Productions.{Production, nonterminal, terminal}
use Rattle.lalrpop_lr1_theory.specs.Trees.{reduce, shift}
use Rattle.lalrpop_lr1_theory.specs.Spans.{SpannedForest, leaf_at, node_at, none_at}
use Rattle.lalrpop_lr1_theory.proofs.ExampleLemmas.{name, nothing_in, production, quoted}
use Rattle.lalrpop_lr1_interpret.specs.MoveOrders.{leaf_label, node_label, tree_entries}
use Rattle.lalrpop_judge.specs.EntryMoves.{IsKeptBeside, Root, list_moves, list_spans, tree_roots}

abbrev a : Terminal
a = quoted 97

abbrev x : Terminal
x = quoted 120

-- `S = "a" "x" or nothing`
abbrev pair : Production
pair = production 1 (name 83) (terminal a ∷ terminal x ∷ [])

abbrev nothing : Production
nothing = production 2 (name 83) []

abbrev both : List Production
both = pair ∷ nothing ∷ []

-- `x`, then `a x` under a node
abbrev trees : SpannedForest
trees = leaf_at x (0, 1) (node_at pair (leaf_at a (1, 2) (leaf_at x (2, 3) none_at)) none_at)

abbrev leaf_of : Terminal → Root
leaf_of t = record { symbol = terminal t; size = 1 }

their_roots : tree_roots trees ≡ leaf_of x ∷ record { symbol = nonterminal (name 83); size = 3 } ∷ []
their_roots = refl

their_moves : list_moves (tree_entries trees) ≡ shift x ∷ shift a ∷ shift x ∷ reduce pair ∷ []
their_moves = refl

their_spans : list_spans (tree_entries trees) ≡ (0, 1) ∷ (1, 2) ∷ (2, 3) ∷ []
their_spans = refl

-- before the node
abbrev leaves : List Root
leaves = leaf_of x ∷ leaf_of a ∷ leaf_of x ∷ []

-- the first leaf stays beside it
over_two : IsKeptBeside (Contains both) leaves (node_label pair) 3 1
over_two = record { is = (0, omega arith, refl); within = omega arith; symbols = refl; size_is = refl }

-- not none of them
over_three : IsKeptBeside (Contains both) leaves (node_label pair) 4 0 → ⊥
over_three h = omega (arith, ap length h.symbols)

-- its size isn't that of its children and itself
of_one_more : IsKeptBeside (Contains both) leaves (node_label pair) 4 1 → ⊥
of_one_more h = omega (arith, h.size_is)

without_itself : IsKeptBeside (Contains both) leaves (node_label pair) 2 1 → ⊥
without_itself h = omega (arith, h.size_is)

-- it isn't the grammar's
of_no_grammar : IsKeptBeside (Contains []) leaves (node_label pair) 3 1 → ⊥
of_no_grammar h = nothing_in pair h.is

-- a node without children, and a leaf: all stay
over_none : IsKeptBeside (Contains both) leaves (node_label nothing) 1 3
over_none = record { is = (1, omega arith, refl); within = omega arith; symbols = refl; size_is = refl }

beside_leaf : IsKeptBeside (Contains both) leaves (leaf_label a (3, 4)) 1 3
beside_leaf = refl

beside_leaf_all : IsKeptBeside (Contains both) leaves (leaf_label a (3, 4)) 1 2 → ⊥
beside_leaf_all h = omega (arith, h)
