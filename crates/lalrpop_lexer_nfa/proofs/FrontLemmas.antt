-- The edges of a state are those at the front, from its first index on. For the edges of an automaton's state.
use Rattle.std.proofs.Common.{◌≡◌, ℕ, zero, suc, ◌+◌, ◌<◌, ◌≤◌, Bool, true, false, cond, eqb, eq-eqb, true≢false}
use Rattle.std.proofs.Common.{List, [], ◌∷◌, ◌++◌, length, get_or, take, drop, refl, sym, ap, ◌∙◌, subst, arith}
use Rattle.std.specs.Prelude.{filter}
use Rattle.std.specs.List.{take_while}
use Rattle.std.proofs.lemmas.Bool.{eqb-true}
use Rattle.std.proofs.lemmas.List.Sums.{take_while-cons}
use Rattle.std.proofs.lemmas.List.{get_or-map, get_or-take, get_or-drop, length-take-le, length-drop, take-append-drop}
use Rattle.std.proofs.lemmas.List.Elements.{filter-append}
use Rattle.lalrpop_lexer_nfa.specs.declared.edge.Edge.{Edge}
use Rattle.lalrpop_lexer_nfa.specs.EdgeLists.{sources, HasRuns}
use Rattle.lalrpop_lexer_nfa.specs.Labels.{front_from}
use Rattle.lalrpop_lexer_nfa.proofs.EdgeListLemmas.{length-sources}

module _ {X : Type 0} (p : X → Bool) where
  -- none passes
  pub filter_none : (ys : List X) → ((i : ℕ) (d : X) → i < length ys → p (get_or ys i d) ≡ true → ⊥) → filter p ys ≡ []
  filter_none [] none = refl
  filter_none (y ∷ ys) none = go (p y) refl (filter_none ys (λ i d l. none (suc i) d (omega arith)))
    where
      go : (b : Bool) → p y ≡ b → filter p ys ≡ [] → cond (p y) (y ∷ filter p ys) (filter p ys) ≡ []
      go true e rest = absurd (none zero y (omega arith) e)
      go false e rest = rw e rest

  -- none passes behind one that fails
  pub front_is_filter : (ys : List X)
      → ((i j : ℕ) (d : X) → i ≤ j → j < length ys → p (get_or ys j d) ≡ true → p (get_or ys i d) ≡ true)
      → take_while p ys ≡ filter p ys
  front_is_filter [] falls = refl
  front_is_filter (y ∷ ys) falls =
      take_while-cons p y ys ∙ go (p y) refl (front_is_filter ys (λ i j d order l. falls (suc i) (suc j) d (omega arith) (omega arith)))
    where
      go : (b : Bool) → p y ≡ b → take_while p ys ≡ filter p ys
          → cond (p y) (y ∷ take_while p ys) [] ≡ cond (p y) (y ∷ filter p ys) (filter p ys)
      go true e rest = rw e (ap (λ zs. y ∷ zs) rest)
      go false e rest = rw e (sym
          (filter_none ys (λ i d l passes. let f = falls zero (suc i) d (omega arith) (omega arith) passes in
          absurd (true≢false (sym f ∙ e)))))

-- the edges from the state's first index on that come from it are all its edges
pub front_from_first : {L : Type 0} (es : List (Edge L)) (firsts : List ℕ) (q first : ℕ) → HasRuns firsts (sources es)
    → first ≡ get_or firsts q 0 → first ≤ length es →
    front_from q (drop first es) ≡ filter (λ (e : Edge L). eqb e.from.0 q) es
front_from_first {L} es firsts q first runs is within =
    front_is_filter p (drop first es) falls ∙ ap (λ xs. xs ++ filter p (drop first es)) (sym before)
    ∙ sym (filter-append p (take first es) (drop first es)) ∙ ap (filter p) (take-append-drop first es)
  where
    p : Edge L → Bool
    p e = eqb e.from.0 q

    at : (i : ℕ) (d : Edge L) → i < length es → eqb (get_or es i d).from.0 q ≡ true → get_or (sources es) i 0 ≡ q
    at i d l passes = get_or-map (λ (e : Edge L). e.from.0) es i d 0 l ∙ eqb-true _ _ passes

    back : (i : ℕ) (d : Edge L) → i < length es → get_or (sources es) i 0 ≡ q → eqb (get_or es i d).from.0 q ≡ true
    back i d l e = eq-eqb _ _ (sym (get_or-map (λ (e : Edge L). e.from.0) es i d 0 l) ∙ e)

    before : filter p (take first es) ≡ []
    before = filter_none p (take first es)
        (λ i d l passes. none i d (omega (arith, length-take-le first es within)) (omega (arith, length-take-le first es within)) passes)
      where
        none : (i : ℕ) (d : Edge L) → i < first → i < length es → p (get_or (take first es) i d) ≡ true → ⊥
        none i d less l passes =
            let e = at i d l (let P : Edge L → Type 0 = λ x. eqb x.from.0 q ≡ true in
            subst P (get_or-take first es i d less) passes) in
            let after = runs.after i (omega (arith, length-sources es)) in
            let x : get_or firsts q 0 ≤ i = rw e at after in omega arith

    falls : (i j : ℕ) (d : Edge L) → i ≤ j → j < length (drop first es) → p (get_or (drop first es) j d) ≡ true
        → p (get_or (drop first es) i d) ≡ true
    falls i j d order l passes =
        let size = length-drop first es in
        let e = at (first + j) d (omega arith)
        (let P : Edge L → Type 0 = λ x. eqb x.from.0 q ≡ true in subst P (get_or-drop first es j d) passes) in
        let same = runs.run (first + j) (first + i) (omega (arith, length-sources es)) (rw e (omega arith)) (omega arith) in
        let P : Edge L → Type 0 = λ x. eqb x.from.0 q ≡ true in
        subst P (sym (get_or-drop first es i d)) (back (first + i) d (omega arith) (same ∙ e))
