-- How much a table of sets lacks, where a set grows: for the measures of sweeps.
use Rattle.std.proofs.Common.{◌≡◌, ℕ, zero, suc, ◌+◌, ◌<◌, ◌≤◌, Bool, true, false, cond, List, [], ◌∷◌}
use Rattle.std.proofs.Common.{length, set, refl, ap, ◌∙◌, sym, arith}
use Rattle.std.proofs.Common.{◌⊎◌, inl, inr}
use Rattle.std.proofs.lemmas.Bool.{cases_lt}
use Rattle.lalrpop_sets.specs.AscendingLists.{has}
use Rattle.lalrpop_lr1_first.specs.Numbers.{set_of_number}
use Rattle.lalrpop_lr1_first.specs.FirstSteps.{missing, missing_in}

missing_less_eq : (n : ℕ) (s t : List ℕ) → ((k : ℕ) → has s k ≡ true → has t k ≡ true) → missing n t ≤ missing n s
missing_less_eq zero s t h = omega arith
missing_less_eq (suc n) s t h = go (has s n) (has t n) (h n) (missing_less_eq n s t h)
  where
    go : (a b : Bool) → (a ≡ true → b ≡ true) → missing n t ≤ missing n s →
        cond b 0 1 + missing n t ≤ cond a 0 1 + missing n s
    go true true i r = omega arith
    go true false i r = let z : false ≡ true = i refl in let w : ⊥ = cc in absurd w
    go false true i r = omega arith
    go false false i r = omega arith

-- a set that grows by a number below n lacks less
pub missing_less : (n : ℕ) (s t : List ℕ) (j : ℕ) → ((k : ℕ) → has s k ≡ true → has t k ≡ true) → j < n →
    has s j ≡ false →
    has t j ≡ true → missing n t < missing n s
missing_less zero s t j h l p q = absurd (omega arith)
missing_less (suc n) s t j h l p q = go (cases_lt j n) (missing_less_eq n s t h) (λ m. missing_less n s t j h m p q)
  where
    top : (a b : Bool) → (a ≡ true → b ≡ true) → missing n t < missing n s →
        cond b 0 1 + missing n t < cond a 0 1 + missing n s
    top true true i r = omega arith
    top true false i r = let z : false ≡ true = i refl in let w : ⊥ = cc in absurd w
    top false true i r = omega arith
    top false false i r = omega arith

    here : (a b : Bool) → a ≡ false → b ≡ true → missing n t ≤ missing n s →
        cond b 0 1 + missing n t < cond a 0 1 + missing n s
    here false true e f r = omega arith
    here true b e f r = let w : ⊥ = cc in absurd w
    here false false e f r = let w : ⊥ = cc in absurd w

    go : (j < n) ⊎ (n ≤ j) → missing n t ≤ missing n s → (j < n → missing n t < missing n s) →
        cond (has t n) 0 1 + missing n t < cond (has s n) 0 1 + missing n s
    go (inl m) r rec = top (has s n) (has t n) (h n) (rec m)
    go (inr m) r rec = let e : j ≡ n = omega arith in here (has s n) (has t n) (sym (ap (has s) e) ∙ p) (sym (ap (has t) e) ∙ q) r

-- a table with a set that lacks less lacks less
pub missing_set : (n : ℕ) (sets : List (List ℕ)) (a : ℕ) (t : List ℕ) → a < length sets →
    missing n t < missing n (set_of_number sets a) →
    missing_in n (set sets a t) < missing_in n sets
missing_set n [] a t h l = absurd (omega arith)
missing_set n (s ∷ sets) zero t h l = omega arith
missing_set n (s ∷ sets) (suc a) t h l = let r = missing_set n sets a t (omega arith) l in omega arith
