-- Ranges in order of their starts, and how far those up to each reach. For `furthest_ends`, `first_beyond` and `is_covered`.
use Rattle.std.proofs.Common.{◌≡◌, ℕ, ◌+◌, ◌-◌, ◌<◌, ◌≤◌, ◌⊎◌, List, [], ◌∷◌, ◌++◌}
use Rattle.std.proofs.Common.{length, get_or, Contains}
use Rattle.std.proofs.Common.{max, inl, inr, ⊎_elim, ap, ◌∙◌, refl, arith}
use Rattle.std.proofs.Math.Seq.{get_or-append_seam}
use Rattle.std.proofs.lemmas.Bool.{cases_lt}
use Rattle.std.proofs.lemmas.List.{get_or_append_left, length_push, get_or_default}
use Rattle.std.proofs.lemmas.List.Elements.{Contains-get_or}
use Rattle.lalrpop_lexer_nfa.specs.Ranges.{IsCovered, AreFurthestEnds, nth_test}
use Rattle.lalrpop_lexer_nfa.specs.declared.test.Test.{Test}

-- the greatest ends of the first ranges, and the greatest of them all
pub record ReachesSome (tests : List Test) (ends : List ℕ) (n furthest : ℕ) : Type 0 where
  pub size : length ends ≡ n
  pub above : (j k : ℕ) → j ≤ k → k < n → (nth_test tests j).end ≤ get_or ends k 0
  pub among : (k : ℕ) → k < n → (j : ℕ) × (j ≤ k) × ((nth_test tests j).end ≡ get_or ends k 0)
  pub top : (j : ℕ) → j < n → (nth_test tests j).end ≤ furthest
  pub tip : (n ≡ 0) × (furthest ≡ 0) ⊎ ((j : ℕ) × (j < n) × ((nth_test tests j).end ≡ furthest))

pub reaches_start : (tests : List Test) → ReachesSome tests [] 0 0
reaches_start tests = record {
  size = refl;
  above = λ j k h l. absurd (omega arith);
  among = λ k l. absurd (omega arith);
  top = λ j l. absurd (omega arith);
  tip = inl (refl, refl);
}

-- one more range
pub reaches_more : (tests : List Test) (ends : List ℕ) (n furthest new : ℕ)
    → new ≡ max (nth_test tests n).end furthest → ReachesSome tests ends n furthest
    → ReachesSome tests (ends ++ new ∷ []) (n + 1) new
reaches_more tests ends n furthest new is before = record {
  size = omega (arith, length_push ends new, before.size);
  above = λ j k h l. ⊎_elim
      (λ (old : k < n). rw (get_or_append_left ends (new ∷ []) 0 k (omega (arith, before.size))) (before.above j k h old))
      (λ (ge : n ≤ k). let at : k ≡ length ends = omega (arith, before.size) in
      rw (at, get_or-append_seam ends new [] 0) (top' j (omega arith)))
      (cases_lt k n);
  among = λ k l. ⊎_elim
      (λ (old : k < n). rw (get_or_append_left ends (new ∷ []) 0 k (omega (arith, before.size))) (before.among k old))
      (λ (ge : n ≤ k). let at : k ≡ length ends = omega (arith, before.size) in
      rw (at, get_or-append_seam ends new [] 0) (tip'.0, omega (arith, tip'.1, before.size), tip'.2))
      (cases_lt k n);
  top = top';
  tip = inr tip';
}
  where
    top' : (j : ℕ) → j < n + 1 → (nth_test tests j).end ≤ new
    top' j l = ⊎_elim (λ (old : j < n). omega (arith, before.top j old, is))
        (λ (ge : n ≤ j). let at : j ≡ n = omega arith in rw at (omega (arith, is))) (cases_lt j n)

    tip' : (j : ℕ) × (j < n + 1) × ((nth_test tests j).end ≡ new)
    tip' = ⊎_elim
        (λ (less : (nth_test tests n).end < furthest). ⊎_elim (λ none. absurd (omega (arith, none.1)))
        (λ t. (t.0, omega (arith, t.1), omega (arith, t.2, is))) before.tip)
        (λ (ge : furthest ≤ (nth_test tests n).end). (n, omega arith, omega (arith, is)))
        (cases_lt (nth_test tests n).end furthest)

module _ (tests : List Test) (ends : List ℕ) (p n : ℕ) (furthest : AreFurthestEnds tests ends) (within : p ≤ length tests)
    (below : (i : ℕ) → i < p → (nth_test tests i).start ≤ n)
    (above : (i : ℕ) → p ≤ i → i < length tests → n < (nth_test tests i).start) where
  -- what the furthest end among the ranges that begin no later reaches is covered
  pub covered_from : 0 < p → n ≤ get_or ends (p - 1) 0 → IsCovered tests n
  covered_from some reaches =
      let j = furthest.among (p - 1) (omega arith) in
      let inside : j.0 < length tests = omega (arith, j.1) in (
        nth_test tests j.0,
        Contains-get_or tests j.0 (record { start = 0; end = 0 }) inside,
        (below j.0 (omega (arith, j.1)), omega (arith, j.2)),
      )

  -- what a range holds is reached
  pub covered_tells : IsCovered tests n → (0 < p) × (n ≤ get_or ends (p - 1) 0)
  covered_tells (t, (i, l, is), holds) =
      let at : nth_test tests i ≡ t = get_or_default tests i (record { start = 0; end = 0 }) t l ∙ is in
      let begins = ap (λ (s : Test). s.start) at in
      let finishes = ap (λ (s : Test). s.end) at in
      ⊎_elim
      (λ (less : i < p).
      let far = furthest.above i (p - 1) (omega arith) (omega arith) in (omega arith, omega (arith, far, finishes, holds.1)))
      (λ (ge : p ≤ i). let late = above i ge l in absurd (omega (arith, late, begins, holds.0)))
      (cases_lt i p)

-- ranges in another order cover the same
pub covered_along : (old new : List Test) (n : ℕ) → ((t : Test) → Contains old t → Contains new t) → IsCovered old n
    → IsCovered new n
covered_along old new n all h = (h.0, all h.0 h.1, h.2)
