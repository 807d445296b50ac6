-- Stacks of trees and of states, parts of lists and numbers of names, computed.
use Rattle.std.proofs.Common.{◌≡◌, ℕ, zero, suc, ◌<◌, ◌≤◌, [], ◌∷◌, Some, None}
use Rattle.std.proofs.Common.{refl, ap, arith, length, length-append, take}
use Rattle.std.specs.Prelude.{slice_index}
use Rattle.lalrpop_grammar_symbols.specs.Symbols.{Terminal, TextSpan}
use Rattle.lalrpop_lr1_theory.specs.Productions.{Production, Symbol, terminal}
use Rattle.lalrpop_lr1_theory.specs.Automata.{Walk, stands}
use Rattle.lalrpop_lr1_theory.specs.Spans.{SpannedForest, leaf_at, node_at, none_at, without_spans}
use Rattle.lalrpop_lr1_theory.specs.Trees.{reduce, roots, shift}
use Rattle.lalrpop_lr1_theory.proofs.TreeLemmas.{roots-and}
use Rattle.lalrpop_lr1_interpret.specs.ExpandedViews.{nth_tree, root_children}
use Rattle.lalrpop_lr1_interpret.specs.Rows.{AreNumbersOf, part_at}
use Rattle.lalrpop_lr1_interpret.specs.Stacks.{AreStatesOn, EndsByShift, HasChildren, by_shift, no_moves, ◌beside◌}
use Rattle.lalrpop_lr1_interpret.proofs.StackLemmas.{states_on, without-beside}

-- a terminal for the examples: the regular expression of the digit 1
abbrev pub one : Terminal
one = Terminal.regex (49 ∷ [])

-- `N = r"1"`
abbrev pub number : Production
number = record { left = 78 ∷ []; right = terminal one ∷ []; action = 0; from = 0; to = 1 }

abbrev span : TextSpan
span = (2, 3)

abbrev a_leaf : SpannedForest
a_leaf = leaf_at one span none_at

abbrev a_node : SpannedForest
a_node = node_at number a_leaf none_at

-- trees beside others, and beside none
beside_two : a_node beside a_leaf ≡ node_at number a_leaf (leaf_at one span none_at)
beside_two = refl

beside_nothing : none_at beside a_leaf ≡ a_leaf
beside_nothing = refl

-- the trees of a list by their places, and the children of a root
first_tree : nth_tree (a_node beside a_leaf) 0 ≡ Some a_node
first_tree = refl

second_tree : nth_tree (a_node beside a_leaf) 1 ≡ Some a_leaf
second_tree = refl

no_third_tree : nth_tree (a_node beside a_leaf) 2 ≡ None
no_third_tree = refl

children_of_a_node : root_children a_node ≡ a_leaf
children_of_a_node = refl

children_of_a_leaf : root_children a_leaf ≡ none_at
children_of_a_leaf = refl

-- what stands for a leaf ends with the child of a node over it; what stands for nothing doesn't
child_there : HasChildren (λ ts ks. (ts ≡ a_leaf) × (ks ≡ [])) number
child_there = record { kept = none_at; children = a_leaf; tokens = []; stands = (refl, refl); roots_are = refl }

no_child_there : HasChildren (λ ts ks. ts ≡ none_at) number → ⊥
no_child_there h =
    omega (
      arith,
      ap (λ ts. length (roots (without_spans ts))) h.stands,
      ap (λ f. length (roots f)) (without-beside h.kept h.children),
      ap length (roots-and (without_spans h.kept) (without_spans h.children)),
      length-append (roots (without_spans h.kept)) (roots (without_spans h.children)),
      ap length h.roots_are,
    )

-- one edge: from state 0 by the terminal to state 2
data OneEdge : ℕ → Symbol → ℕ → Type 0 where
  edge : OneEdge 0 (terminal one) 2

-- state 0 alone, and one state more
alone : AreStatesOn OneEdge (0 ∷ []) []
alone = record { counted = refl; walks = walk }
  where
    walk : (i : ℕ) → i ≤ 0 → Walk OneEdge (take i []) (slice_index (0 ∷ []) i)
    walk zero h = stands
    walk (suc i) h = absurd (omega arith)

one_more : AreStatesOn OneEdge (0 ∷ 2 ∷ []) (terminal one ∷ [])
one_more = states_on OneEdge (0 ∷ []) [] (terminal one) 2 0 alone stands edge

-- a state is wanting
too_few : AreStatesOn OneEdge (0 ∷ []) (terminal one ∷ []) → ⊥
too_few s = omega (arith, s.counted)

-- no state stands there
none_there : AreStatesOn OneEdge [] [] → ⊥
none_there s = omega (arith, s.counted)

-- moves that end by a shift, and none
shifted_last : EndsByShift (reduce number ∷ shift one ∷ [])
shifted_last = by_shift (reduce number ∷ []) one

no_moves_yet : EndsByShift []
no_moves_yet = no_moves

-- names by their numbers: the same name has the same
numbered_names : AreNumbersOf {X = ℕ} (5 ∷ 7 ∷ []) (7 ∷ 5 ∷ 7 ∷ []) (1 ∷ 0 ∷ 1 ∷ [])
numbered_names = (refl, (refl, (refl, tt)))

no_names : AreNumbersOf {X = ℕ} (5 ∷ 7 ∷ []) [] []
no_names = tt

-- a wrong number, and a name that has none
wrong_number : AreNumbersOf {X = ℕ} (5 ∷ 7 ∷ []) (7 ∷ []) (0 ∷ []) → ⊥
wrong_number h = apart 5 7 (omega arith) h.0
  where
    apart : (x y : ℕ) → x < y → Some x ≡ Some y → ⊥
    apart x y less e = let same : x ≡ y = cc in omega (arith, same)

name_left_over : AreNumbersOf {X = ℕ} (5 ∷ 7 ∷ []) (7 ∷ 5 ∷ []) (1 ∷ []) → ⊥
name_left_over h = h.1

-- the part of the second element: two numbers come of each
second_part : part_at (λ (n : ℕ). n ∷ n ∷ []) (4 ∷ 6 ∷ []) 1 ≡ record { first = 2; past = 4 }
second_part = refl
