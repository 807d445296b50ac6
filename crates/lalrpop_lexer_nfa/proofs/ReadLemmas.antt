-- Where a number leads from states, by their transitions. For the step of a set of states.
use Rattle.std.proofs.Common.{◌≡◌, ℕ, ◌≤◌, ◌⊎◌, List, [], ◌∷◌, ◌++◌, map, Contains, inl, inr, ⊎_elim, sym}
use Rattle.std.proofs.Common.{ap, ◌∙◌, subst, eqb, eq-eqb}
use Rattle.std.specs.Prelude.{filter}
use Rattle.std.proofs.lemmas.Bool.{eqb-true}
use Rattle.std.proofs.lemmas.List.Elements.{Contains-push, Contains-push_cases, Contains-append_left}
use Rattle.lalrpop_lexer_nfa.specs.declared.edge.Edge.{Edge}
use Rattle.lalrpop_lexer_nfa.specs.declared.test.Test.{Test}
use Rattle.lalrpop_lexer_nfa.specs.Ranges.{TestHolds}
use Rattle.lalrpop_lexer_nfa.specs.Paths.{Graph, TransitionEdge, HasTransition, transition_view}
use Rattle.lalrpop_lexer_nfa.specs.Sets.{Inserts, IsEpsilonClosure, IsSubsetStep, AddsTransitionTargets, AreTransitionTargets}
use Rattle.lalrpop_lexer_nfa.proofs.ListLemmas.{Contains-nil, Contains-head, Contains-tail, Contains-cons_cases, Contains-map}
use Rattle.lalrpop_lexer_nfa.proofs.ListLemmas.{Contains-from_map, Contains-filter, Contains-from_filter}
use Rattle.lalrpop_lexer_nfa.proofs.SetLemmas.{Inserts-old, Inserts-new, Inserts-cases}

-- the transitions of a state that are left
pub record IsReading (t : Graph) (edges : List (Edge Test)) (q c : ℕ) (old new : List ℕ) (left : List (Edge Test)) : Type 0 where
  pub kept : (x : ℕ) → Contains old x → Contains new x
  pub only : (x : ℕ) → Contains new x → Contains old x ⊎ HasTransition t q c x
  pub all : (x : ℕ) → HasTransition t q c x → Contains new x
      ⊎ ((e : Edge Test) × Contains left e × TestHolds e.label c × (e.to.0 ≡ x))
  pub from : (e : Edge Test) → Contains left e → Contains edges e × (e.from.0 ≡ q)

module _ (t : Graph) (edges : List (Edge Test)) (is : t.tests ≡ map transition_view edges) (q c : ℕ) where
  -- before the first transition of a state, all of them are left
  pub reading_start : (old : List ℕ) (left : List (Edge Test)) → left ≡ filter (λ (e : Edge Test). eqb e.from.0 q) edges
      → IsReading t edges q c old old left
  reading_start old left e = record {
    kept = λ x h. h;
    only = λ x h. inl h;
    all = λ x reads.
        let found = Contains-from_map transition_view edges reads.0 (rw is at reads.1) in
        let P : TransitionEdge → Type 0 = λ f. (f.from ≡ q) × (f.start ≤ c) × (c ≤ f.end) × (f.to ≡ x) in
        let y : P (transition_view found.0) = subst P (sym found.2) (reads.2, reads.3, reads.4, reads.5) in
        inr (found.0, rw e (Contains-filter (λ (e : Edge Test). eqb e.from.0 q) edges found.0 found.1 (eq-eqb _ _ y.0)), (y.1, y.2), y.3);
    from = λ f k. let y = Contains-from_filter (λ (e : Edge Test). eqb e.from.0 q) edges f (rw e at k) in (y.0, eqb-true _ _ y.1);
  }

  -- a transition that reads the number is passed, and the state that it leads to is put in
  pub reading_more : (old mid new : List ℕ) (whole left : List (Edge Test)) (e : Edge Test) → whole ≡ e ∷ left
      → IsReading t edges q c old mid whole → TestHolds e.label c → Inserts mid e.to.0 new →
      IsReading t edges q c old new left
  reading_more old mid new whole left e is_first before holds one =
      let here = before.from e (rw is_first (Contains-head e left)) in
      record {
        kept = λ x h. Inserts-old mid new e.to.0 x one (before.kept x h);
        only = λ x h. ⊎_elim (before.only x)
            (λ at. inr (transition_view e, rw is (Contains-map transition_view edges e here.0), here.1, holds.0, holds.1, at))
            (Inserts-cases mid new e.to.0 x one h);
        all = λ x reads.
            ⊎_elim (λ there. inl (Inserts-old mid new e.to.0 x one there))
            (λ k. ⊎_elim
            (λ same. inl (let P : ℕ → Type 0 = Contains new in
            subst P (ap (λ (f : Edge Test). f.to.0) same ∙ k.3) (Inserts-new mid new e.to.0 one)))
            (λ more. inr (k.0, more, k.2, k.3)) (Contains-cons_cases e left k.0 (rw is_first at k.1)))
            (before.all x reads);
        from = λ f h. before.from f (rw is_first (Contains-tail e left f h));
      }

  -- a transition that does not read the number is passed
  pub reading_skip : (old new : List ℕ) (whole left : List (Edge Test)) (e : Edge Test) → whole ≡ e ∷ left
      → IsReading t edges q c old new whole → (TestHolds e.label c → ⊥) → IsReading t edges q c old new left
  reading_skip old new whole left e is_first before bare = record {
    kept = before.kept;
    only = before.only;
    all = λ x reads.
        ⊎_elim inl
        (λ k. ⊎_elim (λ same. absurd (bare (let P : Edge Test → Type 0 = λ f. TestHolds f.label c in subst P (sym same) k.2)))
        (λ more. inr (k.0, more, k.2, k.3)) (Contains-cons_cases e left k.0 (rw is_first at k.1)))
        (before.all x reads);
    from = λ f h. before.from f (rw is_first (Contains-tail e left f h));
  }

  -- once no transition is left, all that the number leads to from the state was put in
  pub reading_end : (old new : List ℕ) (left : List (Edge Test)) → left ≡ [] → IsReading t edges q c old new left
      → AddsTransitionTargets t q c old new
  reading_end old new left e h = record {
    kept = h.kept;
    only = h.only;
    all = λ x reads. ⊎_elim (λ there. there) (λ k. absurd (Contains-nil k.0 (rw e at k.1))) (h.all x reads);
  }

-- what the number leads to from no state: nothing
pub read_none : (t : Graph) (c : ℕ) (new : List ℕ) → new ≡ [] → AreTransitionTargets t [] c new
read_none t c new e = record { only = λ x h. absurd (Contains-nil x (rw e at h)); all = λ q x h. absurd (Contains-nil q h) }

-- what the number leads to from some states, and then from one more
pub read_more : (t : Graph) (from : List ℕ) (q c : ℕ) (old new : List ℕ) → AreTransitionTargets t from c old
    → AddsTransitionTargets t q c old new → AreTransitionTargets t (from ++ q ∷ []) c new
read_more t from q c old new before one = record {
  only = λ x h.
      ⊎_elim (λ there. let y = before.only x there in (y.0, Contains-append_left from (q ∷ []) y.0 y.1, y.2))
      (λ reads. (q, Contains-push from q, reads)) (one.only x h);
  all = λ p x among reads.
      ⊎_elim (λ there. one.kept x (before.all p x there reads))
      (λ at. one.all x (let P : ℕ → Type 0 = λ r. HasTransition t r c x in subst P (sym at) reads))
      (Contains-push_cases from q p among);
}

-- what is read, closed, is a step
pub step_from_read : (t : Graph) (from : List ℕ) (c : ℕ) (mid new : List ℕ) → AreTransitionTargets t from c mid
    → IsEpsilonClosure t mid new → IsSubsetStep t from c new
step_from_read t from c mid new read closed = record {
  only = λ y h. let x = closed.only y h in let m = read.only x.0 x.1 in (m.0, x.0, m.1, m.2, x.2);
  all = λ q x y among reads follows. closed.all x y (read.all q x among reads) follows;
}
