-- Computed examples of grammars that have no checked states: two valid moves, a barren start, a lookahead that only a state which
-- nothing reaches carries.
use Rattle.std.proofs.Common.{◌≡◌, ℕ, List, [], ◌∷◌, Some, None, refl, sym, ap, ◌∙◌, subst}
use Rattle.std.proofs.Common.{arith, Contains}
use Rattle.lalrpop_grammar_symbols.specs.Symbols.{Terminal}
use Rattle.lalrpop_lr1_theory.specs.Productions.{Production, Symbol, nonterminal, terminal}
use Rattle.lalrpop_lr1_theory.specs.Trees.{AreOver, Forest, IsTreeOf, leaf, node, none, reduce, roots, shift}
use Rattle.lalrpop_lr1_theory.specs.FirstSets.{ends, keeps}
use Rattle.lalrpop_lr1_theory.specs.ValidItems.{IsBarren, itself}
use Rattle.lalrpop_lr1_theory.specs.Automata.{Carries, in_kernel, shifts_next, starts_next}
use Rattle.lalrpop_lr1_theory.specs.States.{HasEdge, HasItem, Reduces, State}
use Rattle.lalrpop_lr1_theory.specs.Answers.{IsLr1, IsValidMove}
use Rattle.lalrpop_lr1_theory.specs.CheckedStates.{AreCheckedStates}
use Rattle.lalrpop_lr1_theory.proofs.CheckedLemmas.{checked_automaton}
use Rattle.lalrpop_lr1_theory.proofs.ExampleLemmas.{head_same, name, none_same, not_empty, not_nonterminal, production, quoted}
use Rattle.lalrpop_lr1_theory.proofs.ExamplesOfStates.{before_these, item_at, letter_a, letter_s, letter_start, reduction_before}
use Rattle.lalrpop_lr1_theory.proofs.ExamplesOfStates.{reduction_with, starts_s, state_of}
use Rattle.lalrpop_lr1_theory.proofs.ListLemmas.{all_of, contains_here}
use Rattle.lalrpop_lr1_theory.proofs.StepLemmas.{some_same}
use Rattle.lalrpop_lr1_theory.proofs.ValidMoveLemmas.{lr1_from_automaton}

abbrev letter_i : ℕ
letter_i = 105

abbrev letter_t : ℕ
letter_t = 84

-- the arrow's text
abbrev arrow : ℕ
arrow = 62

-- `__T = T; T = "i" or T ">" T`
abbrev whole_type : Production
whole_type = production 0 (name letter_start) (nonterminal (name letter_t) ∷ [])

abbrev int : Production
int = production 1 (name letter_t) (terminal (quoted letter_i) ∷ [])

abbrev function_type : Production
function_type =
    production 2 (name letter_t) (nonterminal (name letter_t) ∷ terminal (quoted arrow) ∷ nonterminal (name letter_t) ∷ [])

abbrev types : List Production
types = whole_type ∷ int ∷ function_type ∷ []

-- an `i`, in front of other trees, and an arrow
abbrev one_int : Forest → Forest
one_int rest = node int (leaf (quoted letter_i) none) rest

abbrev arrow_before : Forest → Forest
arrow_before rest = leaf (quoted arrow) rest

-- `i > i`, before a second arrow
abbrev two_ints : Forest
two_ints = one_int (arrow_before (one_int none))

-- the trees of `i > i > i` from the left and from the right
abbrev from_the_left : Forest
from_the_left = node whole_type (node function_type (node function_type two_ints (arrow_before (one_int none))) none) none

abbrev from_the_right : Forest
from_the_right =
    node whole_type (node function_type (one_int (arrow_before (node function_type two_ints none))) none) none

int_over : (rest : Forest) → AreOver (Contains types) rest → AreOver (Contains types) (one_int rest)
int_over rest h = ((1, omega arith, refl), refl, tt, h)

left_tree : IsTreeOf (Contains types) (name letter_start) from_the_left
left_tree = (refl, ((0, omega arith, refl), refl, outer, tt))
  where
    outer : AreOver (Contains types) (node function_type (node function_type two_ints (arrow_before (one_int none))) none)
    outer = (
      (2, omega arith, refl),
      refl,
      ((2, omega arith, refl), refl, int_over (arrow_before (one_int none)) (int_over none tt), int_over none tt),
      tt,
    )

right_tree : IsTreeOf (Contains types) (name letter_start) from_the_right
right_tree = (refl, ((0, omega arith, refl), refl, outer, tt))
  where
    inner : AreOver (Contains types) (node function_type two_ints none)
    inner = ((2, omega arith, refl), refl, int_over (arrow_before (one_int none)) (int_over none tt), tt)

    outer : AreOver (Contains types) (node function_type (one_int (arrow_before (node function_type two_ints none))) none)
    outer = ((2, omega arith, refl), refl, int_over (arrow_before (node function_type two_ints none)) inner, tt)

reduce_valid : IsValidMove (Contains types) (name letter_start) two_ints (Some (quoted arrow)) (reduce function_type)
reduce_valid =
    record {
      tree = from_the_left;
      count = 5;
      left = quoted arrow ∷ quoted letter_i ∷ [];
      is_tree = left_tree;
      forest_is = refl;
      move_is = refl;
      leaves = refl;
      next = refl;
    }

shift_valid : IsValidMove (Contains types) (name letter_start) two_ints (Some (quoted arrow)) (shift (quoted arrow))
shift_valid =
    record {
      tree = from_the_right;
      count = 5;
      left = quoted arrow ∷ quoted letter_i ∷ [];
      is_tree = right_tree;
      forest_is = refl;
      move_is = refl;
      leaves = refl;
      next = refl;
    }

two_moves : (t : Terminal) (p : Production) → reduce p ≡ shift t → ⊥
two_moves t p e = cc

-- so it isn't LR(1), and no states are checked ones
types_not_lr1 : IsLr1 (Contains types) (name letter_start) → ⊥
types_not_lr1 h =
    two_moves (quoted arrow) function_type
    (h two_ints (Some (quoted arrow)) (reduce function_type) (shift (quoted arrow)) reduce_valid shift_valid)

types_never_checked : (states : List State) → AreCheckedStates types (name letter_start) states → ⊥
types_never_checked states ok =
    types_not_lr1
    (lr1_from_automaton (Contains types) (name letter_start) (HasItem states) (HasEdge states) (Reduces states)
    (checked_automaton types (name letter_start) states ok).automaton)

-- `S = S "a"`
abbrev never_ends : Production
never_ends = production 0 (name letter_s) (nonterminal (name letter_s) ∷ terminal (quoted letter_a) ∷ [])

abbrev endless : List Production
endless = never_ends ∷ []

no_trees : (ts : Forest) (b : List Symbol) → roots ts ≡ nonterminal (name letter_s) ∷ b → AreOver (Contains endless) ts → ⊥
no_trees none b e h = not_empty (nonterminal (name letter_s)) b e
no_trees (leaf t ts) b e h =
    not_nonterminal t (name letter_s) (head_same (terminal t) (nonterminal (name letter_s)) (roots ts) b e)
no_trees (node p cs ts) b e h =
    let same = all_of (λ q. never_ends ≡ q) endless (refl, tt) p h.0 in
    no_trees cs (terminal (quoted letter_a) ∷ []) (h.1 ∙ ap (λ q. q.right) (sym same)) h.2

start_is_barren : IsBarren (Contains endless) (name letter_s) (name letter_s)
start_is_barren = (itself, λ ts t. no_trees ts [] t.0 t.1)

barren_never_checked : (states : List State) → AreCheckedStates endless (name letter_s) states → ⊥
barren_never_checked states ok = let t = ok.none_barren (name letter_s) itself in no_trees t.0 [] t.1.0 t.1.1

-- `__S = S; S = A; A = "a"; U = A "x"`: nothing reaches `U`
abbrev letter_a_name : ℕ
letter_a_name = 65

abbrev letter_u : ℕ
letter_u = 85

abbrev letter_x : ℕ
letter_x = 120

abbrev s_is_name : Production
s_is_name = production 1 (name letter_s) (nonterminal (name letter_a_name) ∷ [])

abbrev name_is_a : Production
name_is_a = production 2 (name letter_a_name) (terminal (quoted letter_a) ∷ [])

abbrev unreached : Production
unreached = production 3 (name letter_u) (nonterminal (name letter_a_name) ∷ terminal (quoted letter_x) ∷ [])

abbrev with_unreached : List Production
with_unreached = starts_s ∷ s_is_name ∷ name_is_a ∷ unreached ∷ []

abbrev done_name : State
done_name = state_of 3 (item_at name_is_a 1 ∷ []) [] [] (reduction_before (None ∷ []) name_is_a ∷ [])

abbrev unreached_first : State
unreached_first =
    state_of 4 (item_at unreached 0 ∷ item_at name_is_a 0 ∷ []) ((quoted letter_a, 3) ∷ []) ((name letter_a_name, 5) ∷ []) []

-- its four states, and three that nothing reaches: in the first of these `"a"` is shifted to where `A = "a"` ends
abbrev seven_states : List State
seven_states =
    state_of 0 (item_at starts_s 0 ∷ item_at s_is_name 0 ∷ item_at name_is_a 0 ∷ []) ((quoted letter_a, 3) ∷ [])
    ((name letter_s, 1) ∷ (name letter_a_name, 2) ∷ []) []
    ∷ state_of 1 (item_at starts_s 1 ∷ []) [] [] (reduction_before (None ∷ []) starts_s ∷ [])
    ∷ state_of 2 (item_at s_is_name 1 ∷ []) [] [] (reduction_before (None ∷ []) s_is_name ∷ [])
    ∷ done_name ∷ unreached_first ∷ state_of 5 (item_at unreached 1 ∷ []) ((quoted letter_x, 6) ∷ []) [] []
    ∷ state_of 6 (item_at unreached 2 ∷ []) [] [] (reduction_before (None ∷ []) unreached ∷ []) ∷ []

-- there `"x"` is carried to it, though the item has no lookahead to begin with, and the reduction lacks it
carried_from_unreached : Carries (Contains with_unreached) (name letter_start) (HasItem seven_states) (HasEdge seven_states) 3
    name_is_a 1 (Some (quoted letter_x))
carried_from_unreached =
    shifts_next (terminal (quoted letter_a)) [] 3
    (starts_next (terminal (quoted letter_x) ∷ []) name_is_a (quoted letter_x) (in_kernel unreached 0 its) refl
    (2, omega arith, refl) ([], keeps (terminal (quoted letter_x)) ends)) refl
    (unreached_first, refl, contains_here (quoted letter_a, 3) [])
  where
    its : HasItem seven_states 4 unreached 0
    its =
        record {
          state = unreached_first;
          lookahead = before_these (None ∷ []);
          at = refl;
          held = contains_here (item_at unreached 0) (item_at name_is_a 0 ∷ []);
        }

seven_not_checked : AreCheckedStates with_unreached (name letter_start) seven_states → ⊥
seven_not_checked ok = go (ok.carried 3 name_is_a (Some (quoted letter_x)) carried_from_unreached)
  where
    go : Reduces seven_states 3 name_is_a (Some (quoted letter_x)) → ⊥
    go r =
        let same = some_same done_name r.state r.at in
        let c = subst (λ st. Contains st.reductions (reduction_with r.lookahead name_is_a)) (sym same) r.held in
        let e = all_of (λ q. q.lookahead.nexts ≡ None ∷ []) (reduction_before (None ∷ []) name_is_a ∷ []) (refl, tt)
        (reduction_with r.lookahead name_is_a) c in
        none_same (quoted letter_x)
        (all_of (λ x. x ≡ None) (None ∷ []) (refl, tt) (Some (quoted letter_x))
        (subst (λ l. Contains l (Some (quoted letter_x))) e r.follows))
