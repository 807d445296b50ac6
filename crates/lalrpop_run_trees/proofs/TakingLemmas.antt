-- One element more taken of a list; for the code.
use Rattle.std.proofs.Common.{◌≡◌, ◌+◌, ℕ, zero, suc, List, [], ◌∷◌, ◌++◌, ap, sym, ◌∙◌, arith, drop, take}

taken_next : {A : Type 0} (xs : List A) (i : ℕ) (x : A) (rest : List A) → drop i xs ≡ x ∷ rest →
    take (suc i) xs ≡ take i xs ++ x ∷ []
taken_next [] zero x rest e = cc
taken_next [] (suc i) x rest e = cc
taken_next (y ∷ xs) zero x rest e = let same : y ≡ x = cc in ap (λ z. z ∷ []) same
taken_next (y ∷ xs) (suc i) x rest e = ap (λ l. y ∷ l) (taken_next xs i x rest e)

dropped_next : {A : Type 0} (xs : List A) (i : ℕ) (x : A) (rest : List A) → drop i xs ≡ x ∷ rest → rest ≡ drop (suc i) xs
dropped_next [] zero x rest e = cc
dropped_next [] (suc i) x rest e = cc
dropped_next (y ∷ xs) zero x rest e = cc
dropped_next (y ∷ xs) (suc i) x rest e = dropped_next xs i x rest e

-- what was taken of a list, with its next element behind it, is one element more taken
pub taken_more : {A : Type 0} (xs : List A) (i : ℕ) (x : A) (rest taken new : List A) → taken ≡ take i xs →
    drop i xs ≡ x ∷ rest → new ≡ taken ++ x ∷ [] → new ≡ take (i + 1) xs
taken_more xs i x rest taken new t e n =
    let next : suc i ≡ i + 1 = omega arith in
    n ∙ ap (λ l. l ++ x ∷ []) t ∙ sym (taken_next xs i x rest e) ∙ ap (λ k. take k xs) next

-- what follows the next element of a list is what is left with one element more dropped
pub dropped_more : {A : Type 0} (xs : List A) (i : ℕ) (x : A) (rest : List A) → drop i xs ≡ x ∷ rest → rest ≡ drop (i + 1) xs
dropped_more xs i x rest e =
    let next : suc i ≡ i + 1 = omega arith in
    dropped_next xs i x rest e ∙ ap (λ k. drop k xs) next
