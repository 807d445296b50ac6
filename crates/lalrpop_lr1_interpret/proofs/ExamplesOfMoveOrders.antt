-- Lists of entries and their trees, computed: those that are one tree's, and those that are not.
use Rattle.std.proofs.Common.{◌≡◌, ℕ, List, [], ◌∷◌, refl, ap, arith, map}
use Rattle.lalrpop_grammar_symbols.specs.Symbols.{Terminal, TextSpan}
use Rattle.lalrpop_lr1_theory.specs.Productions.{Production, terminal}
use Rattle.lalrpop_lr1_theory.specs.Trees.{moves, reduce, shift}
use Rattle.lalrpop_lr1_theory.specs.Spans.{SpannedForest, leaf_at, leaf_spans, node_at, none_at, without_spans}
use Rattle.lalrpop_lr1_interpret.specs.MoveOrders.{Entry, IsMoveOrder, tree_entries, label_move, leaf_label, node_label, trees_of}

-- a terminal for the examples: the regular expression of the digit 1
abbrev one : Terminal
one = Terminal.regex (49 ∷ [])

-- `N = r"1"`
abbrev number : Production
number = record { left = 78 ∷ []; right = terminal one ∷ []; action = 0; from = 0; to = 1 }

abbrev first_leaf : Entry
first_leaf = record { label = leaf_label one (0, 1); size = 1 }

abbrev second_leaf : Entry
second_leaf = record { label = leaf_label one (1, 2); size = 1 }

abbrev root_of_size : ℕ → Entry
root_of_size n = record { label = node_label number; size = n }

-- a leaf
leaf_alone : IsMoveOrder (first_leaf ∷ [])
leaf_alone = (refl, refl)

leaf_seen : trees_of (first_leaf ∷ []) ≡ leaf_at one (0, 1) none_at
leaf_seen = refl

-- a node over nothing, though its production has a symbol
childless_node : IsMoveOrder (root_of_size 1 ∷ [])
childless_node = (refl, refl)

childless_seen : trees_of (root_of_size 1 ∷ []) ≡ node_at number none_at none_at
childless_seen = refl

-- a node over its production's symbol
node_in_order : IsMoveOrder (first_leaf ∷ root_of_size 2 ∷ [])
node_in_order = (refl, refl)

node_seen : trees_of (first_leaf ∷ root_of_size 2 ∷ []) ≡ node_at number (leaf_at one (0, 1) none_at) none_at
node_seen = refl

-- a node over more trees than its production has symbols: a leaf, and a node over a leaf
abbrev larger_list : List Entry
larger_list = first_leaf ∷ second_leaf ∷ root_of_size 2 ∷ root_of_size 4 ∷ []

abbrev larger_tree : SpannedForest
larger_tree = node_at number (leaf_at one (0, 1) (node_at number (leaf_at one (1, 2) none_at) none_at)) none_at

larger_in_order : IsMoveOrder larger_list
larger_in_order = (refl, refl)

larger_seen : trees_of larger_list ≡ larger_tree
larger_seen = refl

larger_entries : tree_entries larger_tree ≡ larger_list
larger_entries = refl

larger_moves : moves (without_spans larger_tree) ≡ shift one ∷ shift one ∷ reduce number ∷ reduce number ∷ []
larger_moves = refl

larger_labels : map (λ e. label_move e.label) larger_list ≡ moves (without_spans larger_tree)
larger_labels = refl

-- a size without the node itself
small_size_refused : IsMoveOrder (first_leaf ∷ root_of_size 1 ∷ []) → ⊥
small_size_refused h = omega (arith, h.1)

small_larger_refused : IsMoveOrder (first_leaf ∷ second_leaf ∷ root_of_size 2 ∷ root_of_size 3 ∷ []) → ⊥
small_larger_refused h = omega (arith, h.1)

-- a size with more than there is
great_size_refused : IsMoveOrder (first_leaf ∷ root_of_size 3 ∷ []) → ⊥
great_size_refused h = let z : ⊥ = cc in absurd z

-- a size that parts a tree
parting_size_refused : IsMoveOrder (first_leaf ∷ second_leaf ∷ root_of_size 3 ∷ root_of_size 3 ∷ []) → ⊥
parting_size_refused h = omega (arith, h.1)

-- the root first
root_first_refused : IsMoveOrder (root_of_size 2 ∷ first_leaf ∷ []) → ⊥
root_first_refused h = omega (arith, h.1)

-- the last child first is another tree
abbrev two_leaves : SpannedForest
two_leaves = node_at number (leaf_at one (0, 1) (leaf_at one (1, 2) none_at)) none_at

abbrev first_start : List TextSpan → ℕ
first_start [] = 0
first_start (span ∷ spans) = span.0

last_first_refused : trees_of (second_leaf ∷ first_leaf ∷ root_of_size 3 ∷ []) ≡ two_leaves → ⊥
last_first_refused h = omega (arith, ap (λ ts. first_start (leaf_spans ts)) h)

-- two trees, and none
two_trees_refused : IsMoveOrder (first_leaf ∷ second_leaf ∷ []) → ⊥
two_trees_refused h = omega (arith, h.1)

no_tree_refused : IsMoveOrder [] → ⊥
no_tree_refused h = omega (arith, h.1)
