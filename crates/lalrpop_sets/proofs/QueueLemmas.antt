-- The first of what is left of a list behind some of its elements, for kernel_set.
use Rattle.std.proofs.Common.{◌≡◌, ℕ, zero, suc, List, [], ◌∷◌, drop, Some, slice_get, ap}

-- what is left begins with the element at the place
pub get_dropped : {K : Type 0} (ks : List K) (n : ℕ) (k : K) (rest : List K) → drop n ks ≡ k ∷ rest → slice_get ks n ≡ Some k
get_dropped [] zero k rest e = let z : ⊥ = cc in absurd z
get_dropped [] (suc n) k rest e = let z : ⊥ = cc in absurd z
get_dropped (x ∷ ks) zero k rest e = let h : x ≡ k = cc in ap Some h
get_dropped (x ∷ ks) (suc n) k rest e = get_dropped ks n k rest e
