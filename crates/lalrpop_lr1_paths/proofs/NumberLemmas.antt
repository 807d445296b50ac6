-- Numbers of paths, where one more node gets one: for the search.
use Rattle.std.proofs.Common.{◌≡◌, ◌≢◌, ◌∙◌, ℕ, Option, Some, None}
use Rattle.std.proofs.Common.{◌⊎◌, inl, inr, ⊎_elim, sym, ap, subst, arith}
use Rattle.std.proofs.lemmas.Bool.{cases_lt}
use Rattle.lalrpop_lr1_paths.specs.PathSearches.{AddsNumber}

pub same_or_not : (m n : ℕ) → (m ≡ n) ⊎ (m ≢ n)
same_or_not m n = ⊎_elim (λ l. inr (λ e. omega (arith, l, e)))
    (λ g. ⊎_elim (λ l. inr (λ e. omega (arith, l, e))) (λ h. inl (omega (arith, g, h))) (cases_lt n m)) (cases_lt m n)

-- an optional value is never none and something at once
pub never_both : {X : Type 0} (o : Option X) (x : X) → o ≡ None → o ≡ Some x → ⊥
never_both o x n s = cc

module _ (old new : ℕ → Option ℕ) (n k : ℕ) (fresh : old n ≡ None) (adds : AddsNumber old new n k) where
  pub number_kept : (m j : ℕ) → old m ≡ Some j → new m ≡ Some j
  number_kept m j is = ⊎_elim (λ e. absurd (never_both (old m) j (ap old e ∙ fresh) is))
      (λ d. adds.others m d ∙ is) (same_or_not m n)

  pub number_from : (m j : ℕ) → new m ≡ Some j → ((m ≡ n) × (j ≡ k)) ⊎ (old m ≡ Some j)
  number_from m j is = ⊎_elim
      (λ e. let here = adds.here in
      let there : new n ≡ Some j = subst (λ x. new x ≡ Some j) e is in
      let same : j ≡ k = cc in inl (e, same))
      (λ d. inr (sym (adds.others m d) ∙ is)) (same_or_not m n)
