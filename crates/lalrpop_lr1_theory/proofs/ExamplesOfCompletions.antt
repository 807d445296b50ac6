-- Computed examples of paths and completions: in the three states of `__S = S; S = "a"` from `"a"` the only completion is by `__S`, and the
-- paths, the way and the tree by it are refused where a step is told wrong.
use Rattle.std.proofs.Common.{◌≡◌, ℕ, zero, suc, List, [], ◌∷◌, ◌++◌, Some, None, Option, refl, sym, ap}
use Rattle.std.proofs.Common.{◌∙◌, subst, arith, Contains}
use Rattle.lalrpop_lr1_theory.specs.Productions.{Production, Symbol, nonterminal, terminal}
use Rattle.lalrpop_lr1_theory.specs.Trees.{Forest, Move, leaf, moves, node, none, reduce, roots, shift}
use Rattle.lalrpop_lr1_theory.specs.Automata.{Walk, goes, stands}
use Rattle.lalrpop_lr1_theory.specs.States.{HasEdge, HasItem}
use Rattle.lalrpop_lr1_theory.proofs.ExampleLemmas.{name, name_same, nonterminal_is, quoted}
use Rattle.lalrpop_lr1_theory.proofs.ExamplesOfStates.{a_given, before_these, first_state, letter_a, letter_s, letter_start, one_letter}
use Rattle.lalrpop_lr1_theory.proofs.ExamplesOfStates.{s_is_a, start_given, starts_s, three_states}
use Rattle.lalrpop_lr1_theory.specs.PathTrees.{ArePaths, IsBack, IsStateOf, LedBy, LastStep, LastSteps, further, here}
use Rattle.lalrpop_lr1_theory.specs.CompletionMoves.{IsContinued, LeadsOut, arrives, steps}

abbrev step_by : ℕ → Symbol → LastStep
step_by n x = record { from = n; by = x }

abbrev from_first : Symbol → Option LastStep
from_first x = Some (step_by 0 x)

-- state 1 is led to by `S`, state 2 by `"a"`
abbrev two_steps : LastSteps
two_steps = None ∷ from_first (nonterminal (name letter_s)) ∷ from_first (terminal (quoted letter_a)) ∷ []

abbrev Led : ℕ → Symbol → ℕ → Type 0
Led = LedBy two_steps

by_letter : Walk Led (terminal (quoted letter_a) ∷ []) 2
by_letter = goes (terminal (quoted letter_a)) 2 stands refl

are_paths : ArePaths three_states two_steps
are_paths =
    record {
      edges = edges;
      one = one;
      root = λ n x e. let z : ⊥ = cc in absurd z;
      all = all;
    }
  where
    edges : (n : ℕ) (x : Symbol) (m : ℕ) → Led n x m → HasEdge three_states n x m
    edges n x zero e = let z : ⊥ = cc in absurd z
    edges n x (suc zero) e =
        let z : step_by n x ≡ step_by 0 (nonterminal (name letter_s)) = cc in by_name n x (ap (λ q. q.from) z) (ap (λ q. q.by) z)
      where
        by_name : (n : ℕ) (x : Symbol) → n ≡ 0 → x ≡ nonterminal (name letter_s) → HasEdge three_states n x 1
        by_name n x e f =
            subst (λ m. HasEdge three_states m x 1) (sym e)
            (subst (λ y. HasEdge three_states 0 y 1) (sym f) (first_state, refl, (0, omega arith, refl)))
    edges n x (suc (suc zero)) e =
        let z : step_by n x ≡ step_by 0 (terminal (quoted letter_a)) = cc in by_terminal n x (ap (λ q. q.from) z) (ap (λ q. q.by) z)
      where
        by_terminal : (n : ℕ) (x : Symbol) → n ≡ 0 → x ≡ terminal (quoted letter_a) → HasEdge three_states n x 2
        by_terminal n x e f =
            subst (λ m. HasEdge three_states m x 2) (sym e)
            (subst (λ y. HasEdge three_states 0 y 2) (sym f) (first_state, refl, (0, omega arith, refl)))
    edges n x (suc (suc (suc m))) e = let z : ⊥ = cc in absurd z

    one : (n k : ℕ) (x y : Symbol) (m : ℕ) → Led n x m → Led k y m → (n ≡ k) × (x ≡ y)
    one n k x y m e f =
        let z : step_by n x ≡ step_by k y = cc in (ap (λ q. q.from) z, ap (λ q. q.by) z)

    all : (n : ℕ) → IsStateOf three_states n → (g : List Symbol) × Walk Led g n
    all zero h = ([], stands)
    all (suc zero) h = (nonterminal (name letter_s) ∷ [], goes (nonterminal (name letter_s)) 1 stands refl)
    all (suc (suc zero)) h = (terminal (quoted letter_a) ∷ [], by_letter)
    all (suc (suc (suc n))) h = let z : ⊥ = cc in absurd z

-- behind `S` the completion is the reduction by `__S`
out_by_start : LeadsOut (Contains one_letter) (name letter_start) (HasItem three_states) Led 0 (name letter_s) (reduce starts_s ∷ []) []
out_by_start =
    steps starts_s (name letter_s) [] none
    (record { state = first_state; lookahead = before_these (None ∷ []); at = refl; held = (1, omega arith, refl) }) refl (here 0) tt refl
    arrives

-- so `"a"` is continued to the whole tree
abbrev whole_tree : Forest
whole_tree = node starts_s (node s_is_a (leaf (quoted letter_a) none) none) none

is_continued : IsContinued (Contains one_letter) (name letter_start) (leaf (quoted letter_a) none)
    (reduce s_is_a ∷ reduce starts_s ∷ []) []
is_continued =
    record {
      tree = whole_tree;
      is_tree = (refl, (start_given, refl, (a_given, refl, tt, tt), tt));
      moves_are = refl;
      forest_is = refl;
      leaves = refl;
    }

-- one place back from state 2 stands state 0
back_one_place : IsBack Led 1 2 0
back_one_place = further (terminal (quoted letter_a)) 2 refl (here 0)

-- refused: no place back from state 2 is state 1
not_back_to_one : IsBack Led 1 2 1 → ⊥
not_back_to_one (further x k e (here b)) =
    let z : step_by 1 x ≡ step_by 0 (terminal (quoted letter_a)) = cc in
    let y : 1 ≡ 0 = ap (λ q. q.from) z in
    omega (arith, y)

-- refused: without the reduction by `__S` the moves are no whole tree's, since its last move is by the start
last_is_start : (ms : List Move) (p : Production) →
    ms ++ reduce p ∷ [] ≡ shift (quoted letter_a) ∷ reduce s_is_a ∷ [] → s_is_a ≡ p
last_is_start [] p e = let z : ⊥ = cc in absurd z
last_is_start (m ∷ []) p e = cc
last_is_start (m ∷ n ∷ []) p e = let z : ⊥ = cc in absurd z
last_is_start (m ∷ n ∷ k ∷ ms) p e = let z : ⊥ = cc in absurd z

not_continued : IsContinued (Contains one_letter) (name letter_start) (leaf (quoted letter_a) none) (reduce s_is_a ∷ []) [] → ⊥
not_continued c = go c.tree c.is_tree.0 c.moves_are
  where
    go : (ts : Forest) → roots ts ≡ nonterminal (name letter_start) ∷ [] →
        moves ts ≡ shift (quoted letter_a) ∷ reduce s_is_a ∷ [] → ⊥
    go none e f = cc
    go (leaf t ts) e f = let z : terminal t ≡ nonterminal (name letter_start) = cc in cc
    go (node p cs none) e f =
        let z : nonterminal p.left ≡ nonterminal (name letter_start) = cc in
        omega (
          arith,
          name_same letter_s letter_start
              (ap (λ q. q.left) (last_is_start (moves cs) p f) ∙ nonterminal_is p.left (name letter_start) z),
        )
    go (node p cs (leaf t ts)) e f = let z : ⊥ = cc in absurd z
    go (node p cs (node q us ts)) e f = let z : ⊥ = cc in absurd z
