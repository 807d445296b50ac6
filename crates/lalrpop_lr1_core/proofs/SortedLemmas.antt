-- What stands at two places of a list in order is in order: for lists of names and productions.
use Rattle.std.proofs.Common.{◌≡◌, ◌<◌, ℕ, zero, suc, List, [], ◌∷◌, Some, slice_get, subst, arith}
use Rattle.std.specs.List.{AllByRecursion}
use Rattle.std.specs.List.Sorted.{IsStrictlySortedBy}
use Rattle.std.specs.declared.cmp.Ordering.{Ordering}
use Rattle.std.specs.declared.cmp.Ordering.TheVariants.{Less}
use Rattle.lalrpop_lr1_theory.proofs.StepLemmas.{some_same}

pub all_at : {X : Type 0} (P : X → Type 0) (xs : List X) (i : ℕ) (x : X) → AllByRecursion P xs → slice_get xs i ≡ Some x → P x
all_at P [] i x h e = let w : ⊥ = cc in absurd w
all_at P (y ∷ xs) zero x h e = subst P (some_same y x e) h.0
all_at P (y ∷ xs) (suc i) x h e = all_at P xs i x h.1 e

-- what stands at two places of a list in order is in order
pub sorted_at : {X : Type 0} (R : X → X → Ordering) (xs : List X) → IsStrictlySortedBy R xs → (i j : ℕ) (x y : X) → i < j →
    slice_get xs i ≡ Some x → slice_get xs j ≡ Some y → R x y ≡ Less
unfolding IsStrictlySortedBy
sorted_at R [] s i j x y l e f = let w : ⊥ = cc in absurd w
sorted_at R (z ∷ xs) s i zero x y l e f = absurd (omega arith)
sorted_at R (z ∷ xs) s zero (suc j) x y l e f =
    subst (λ v. R v y ≡ Less) (some_same z x e) (all_at (λ v. R z v ≡ Less) xs j y s.0 f)
sorted_at R (z ∷ xs) s (suc i) (suc j) x y l e f = sorted_at R xs s.1 i j x y (omega arith) e f
