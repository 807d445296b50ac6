-- What a heap holds after a push or a pop, whatever its order: for the entries that wait.
use Rattle.std.proofs.Common.{◌≡◌, ℕ, zero, suc, ◌<◌, List, ◌∷◌, length, Contains, IsPermutation, ◌⊎◌}
use Rattle.std.proofs.Common.{inl, inr, refl, arith}
use Rattle.std.proofs.lemmas.List.Sorted.{Contains-permutation, IsPermutation-sym, length_permutation}
use Rattle.std.specs.Prelude.{slice_index_or}

-- a list contains the element with which it begins
pub first_there : {X : Type 0} (x : X) (xs : List X) → Contains (x ∷ xs) x
first_there x xs = (0, omega arith, refl)

-- what a list contains is still there with another element in front
pub others_there : {X : Type 0} (x y : X) (xs : List X) → Contains xs y → Contains (x ∷ xs) y
others_there x y xs c = (suc c.0, omega (arith, c.1), c.2)

-- what a list contains is its first element, or the rest contains it
pub first_or_other : {X : Type 0} (x y : X) (xs : List X) → Contains (x ∷ xs) y → (x ≡ y) ⊎ Contains xs y
first_or_other {X = X} x y xs c = go c.0 c.1 c.2
  where
    go : (k : ℕ) → k < length (x ∷ xs) → slice_index_or (x ∷ xs) k y ≡ y → (x ≡ y) ⊎ Contains xs y
    go zero h e = inl e
    go (suc k) h e = inr (k, omega (arith, h), e)

-- one more was put in
module _ {X : Type 0} (x : X) (old new : List X) (moved : IsPermutation (x ∷ old) new) where
  pub pushed_there : Contains new x
  pushed_there = Contains-permutation (x ∷ old) new x moved (first_there x old)

  pub pushed_kept : (y : X) → Contains old y → Contains new y
  pushed_kept y c = Contains-permutation (x ∷ old) new y moved (others_there x y old c)

  pub pushed_from : (y : X) → Contains new y → (x ≡ y) ⊎ Contains old y
  pushed_from y c = first_or_other x y old (Contains-permutation new (x ∷ old) y (IsPermutation-sym (x ∷ old) new moved) c)

  pub pushed_long : length new ≡ suc (length old)
  pushed_long = length_permutation (x ∷ old) new moved
