-- Computed examples of trees, moves and forests: the tree of `1+2`, and a tree that is none of the grammar.
use Rattle.std.proofs.Common.{◌≡◌, ℕ, List, [], ◌∷◌, length, refl, ap, arith, Contains}
use Rattle.std.specs.Prelude.{codes}
use Rattle.std.proofs.Common.{◌+◌}
use Rattle.lalrpop_grammar_symbols.specs.Symbols.{Terminal}
use Rattle.lalrpop_lr1_theory.specs.Productions.{Production, Symbol, nonterminal, terminal}
use Rattle.lalrpop_lr1_theory.specs.Trees.{AreOver, Forest, IsTreeOf, forest, leaf, moves, node, nodes, none, reduce, shift, yield}
use Rattle.lalrpop_lr1_theory.specs.Spans.{SpannedForest, leaf_at, leaf_spans, node_at, none_at, without_spans}
use Rattle.lalrpop_lr1_theory.proofs.ExampleLemmas.{production}

abbrev number : Terminal
number = Terminal.regex (codes "[0-9]+")

abbrev plus : Terminal
plus = Terminal.quoted (codes "+")

-- the productions of sums: `__Expr = Expr; Expr = Expr "+" Expr2 or Expr2; Expr2 = Expr2 "*" Expr1 or Expr1; Expr1 = Num`
abbrev whole : Production
whole = production 0 (codes "__Expr") (nonterminal (codes "Expr") ∷ [])

abbrev sum : Production
sum = production 1 (codes "Expr") (nonterminal (codes "Expr") ∷ terminal plus ∷ nonterminal (codes "Expr2") ∷ [])

abbrev summand : Production
summand = production 2 (codes "Expr") (nonterminal (codes "Expr2") ∷ [])

abbrev product : Production
product =
    production 3 (codes "Expr2")
    (nonterminal (codes "Expr2") ∷ terminal (Terminal.quoted (codes "*")) ∷ nonterminal (codes "Expr1") ∷ [])

abbrev factor : Production
factor = production 4 (codes "Expr2") (nonterminal (codes "Expr1") ∷ [])

abbrev atom : Production
atom = production 5 (codes "Expr1") (nonterminal (codes "Num") ∷ [])

abbrev digits : Production
digits = production 6 (codes "Num") (terminal number ∷ [])

abbrev sums : List Production
sums = whole ∷ sum ∷ summand ∷ product ∷ factor ∷ atom ∷ digits ∷ []

-- a number as a factor, in front of other trees
abbrev one_factor : Forest → Forest
one_factor rest = node factor (node atom (node digits (leaf number none) none) none) rest

abbrev first_summand : Forest
first_summand = node summand (one_factor none) none

-- the tree of `1+2`
abbrev one_plus_two : Forest
one_plus_two = node whole (node sum (node summand (one_factor none) (leaf plus (one_factor none))) none) none

its_nodes : nodes one_plus_two ≡ 12
its_nodes = refl

its_yield : yield one_plus_two ≡ number ∷ plus ∷ number ∷ []
its_yield = refl

its_moves : moves one_plus_two
    ≡ shift number ∷ reduce digits ∷ reduce atom ∷ reduce factor ∷ reduce summand ∷ shift plus ∷ shift number ∷ reduce
    digits
    ∷ reduce atom ∷ reduce factor ∷ reduce sum ∷ reduce whole ∷ []
its_moves = refl

before_all_moves : forest one_plus_two 0 ≡ none
before_all_moves = refl

after_five_moves : forest one_plus_two 5 ≡ first_summand
after_five_moves = refl

after_all_moves : forest one_plus_two 12 ≡ one_plus_two
after_all_moves = refl

is_factor : AreOver (Contains sums) (one_factor none)
is_factor = ((4, omega arith, refl), refl, ((5, omega arith, refl), refl, ((6, omega arith, refl), refl, tt, tt), tt), tt)

-- it is a tree over the grammar
its_tree : IsTreeOf (Contains sums) (codes "__Expr") one_plus_two
its_tree = (refl, ((0, omega arith, refl), refl, is_sum, tt))
  where
    is_summand : AreOver (Contains sums) (node summand (one_factor none) (leaf plus (one_factor none)))
    is_summand = ((2, omega arith, refl), refl, is_factor, is_factor)

    is_sum : AreOver (Contains sums) (node sum (node summand (one_factor none) (leaf plus (one_factor none))) none)
    is_sum = ((1, omega arith, refl), refl, is_summand, tt)

-- a sum with a child too few is not over the grammar, nor is the tree from another start
child_too_few : AreOver (Contains sums) (node sum first_summand none) → ⊥
child_too_few h = omega (arith, ap length h.1)

other_start : IsTreeOf (Contains sums) (codes "Expr") one_plus_two → ⊥
other_start h = omega (arith, ap heads h.0)
  where
    heads : List Symbol → ℕ
    heads [] = 0
    heads (terminal t ∷ xs) = 0
    heads (nonterminal A ∷ xs) = length A

-- the same tree with spans, and what it is without them
abbrev factor_at : ℕ → SpannedForest → SpannedForest
factor_at n rest = node_at factor (node_at atom (node_at digits (leaf_at number (n, n + 1) none_at) none_at) none_at) rest

abbrev one_plus_two_at : SpannedForest
one_plus_two_at =
    node_at whole (node_at sum (node_at summand (factor_at 0 none_at) (leaf_at plus (1, 2) (factor_at 2 none_at))) none_at) none_at

its_tree_alone : without_spans one_plus_two_at ≡ one_plus_two
its_tree_alone = refl

its_spans : leaf_spans one_plus_two_at ≡ (0, 1) ∷ (1, 2) ∷ (2, 3) ∷ []
its_spans = refl
