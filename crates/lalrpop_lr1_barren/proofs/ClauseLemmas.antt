-- Marks that are set, and what holds of the numbers below one: for marks of names.
use Rattle.std.proofs.Common.{◌≡◌, ◌∙◌, ◌⊎◌, ℕ, zero, suc, ◌+◌, ◌<◌, ◌≤◌, Bool, true, false}
use Rattle.std.proofs.Common.{List, [], ◌∷◌, length, set}
use Rattle.std.proofs.Common.{refl, sym, ap, subst, inl, inr, ⊎_elim, arith}
use Rattle.std.proofs.lemmas.Bool.{cases_lt}
use Rattle.lalrpop_lr1_barren.specs.Clauses.{IsMarked, has_mark}

-- a mark that is set is there, those that were there stay, and no other comes
pub set_there : (bs : List Bool) (i : ℕ) → i < length bs → IsMarked (set bs i true) i
set_there [] i h = absurd (omega arith)
set_there (b ∷ bs) zero h = refl
set_there (b ∷ bs) (suc i) h = set_there bs i (omega arith)

-- a place that is marked is within the list of marks
pub marked_within : (bs : List Bool) (i : ℕ) → IsMarked bs i → i < length bs
marked_within [] i m = let w : ⊥ = cc in absurd w
marked_within (b ∷ bs) zero m = omega arith
marked_within (b ∷ bs) (suc i) m = omega (arith, marked_within bs i m)

-- marking one place keeps all marks that were there
pub set_kept : (bs : List Bool) (i n : ℕ) → IsMarked bs n → IsMarked (set bs i true) n
set_kept [] i n m = let w : ⊥ = cc in absurd w
set_kept (b ∷ bs) zero zero m = refl
set_kept (b ∷ bs) zero (suc n) m = m
set_kept (b ∷ bs) (suc i) zero m = m
set_kept (b ∷ bs) (suc i) (suc n) m = set_kept bs i n m

-- a mark after one place is marked is at that place or was there before
pub set_from : (bs : List Bool) (i n : ℕ) → IsMarked (set bs i true) n → (n ≡ i) ⊎ IsMarked bs n
set_from [] i n m = let w : ⊥ = cc in absurd w
set_from (b ∷ bs) zero zero m = inl refl
set_from (b ∷ bs) zero (suc n) m = inr m
set_from (b ∷ bs) (suc i) zero m = inr m
set_from (b ∷ bs) (suc i) (suc n) m = ⊎_elim (λ e. inl (ap suc e)) (λ k. inr k) (set_from bs i n m)

-- where none is marked, the one that is set is the only one
pub only_set : (bs : List Bool) (i n : ℕ) → ((k : ℕ) → has_mark bs k ≡ false) → IsMarked (set bs i true) n → n ≡ i
only_set bs i n empty m =
    ⊎_elim (λ e. e) (λ k. let both : true ≡ false = sym k ∙ empty n in let w : ⊥ = cc in absurd w) (set_from bs i n m)

-- a list with one place marked is as long as before
pub set_long : (bs : List Bool) (i : ℕ) → length (set bs i true) ≡ length bs
set_long [] i = refl
set_long (b ∷ bs) zero = refl
set_long (b ∷ bs) (suc i) = ap suc (set_long bs i)

-- what holds below a number and at it
pub each_below : (P : ℕ → Type 0) (i : ℕ) → ((n : ℕ) → n < i → P n) → P i → (n : ℕ) → n < i + 1 → P n
each_below P i before own n l = ⊎_elim (λ h. before n h) last (cases_lt n i)
  where
    last : i ≤ n → P n
    last h = let here : i ≡ n = omega (arith, h, l) in subst P here own
