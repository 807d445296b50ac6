-- The one index of a list where a test holds, and lists seen through a function, for the arguments of the command.
use Rattle.std.proofs.Common.{◌≡◌, ◌<◌, ◌&&◌, zero, suc, ap, arith, refl, ℕ, Bool, true, false, not, List, [], ◌∷◌}
use Rattle.std.proofs.Common.{length}
use Rattle.std.specs.Prelude.{map}
use Rattle.std.specs.List.{list_any, slice_index_or}
use Rattle.std.proofs.lemmas.List.Folds.{list_any_at}

-- the test holds at index k alone
abbrev pub only_at : {X : Type 0} → (X → Bool) → ℕ → List X → Bool
only_at p k [] = true
only_at p zero (x ∷ xs) = not (list_any p xs)
only_at p (suc k) (x ∷ xs) = not (p x) && only_at p k xs

-- where two tests hold together, the first holds
pub and_first : (a b : Bool) → (a && b) ≡ true → a ≡ true
and_first true b h = refl
and_first false b h = cc

-- where two tests hold together, the second holds
pub and_second : (a b : Bool) → (a && b) ≡ true → b ≡ true
and_second true b h = h
and_second false b h = cc

-- a test whose negation holds does not hold
pub not_true : (a : Bool) → not a ≡ true → a ≡ true → ⊥
not_true true h e = cc
not_true false h e = cc

-- a test that holds at one index alone holds at no other index of the list
pub only_place : {X : Type 0} (p : X → Bool) (k : ℕ) (xs : List X) → only_at p k xs ≡ true
    → (j : ℕ) (d : X) → j < length xs → p (slice_index_or xs j d) ≡ true → j ≡ k
only_place p k [] only j d lt at = absurd (omega arith)
only_place p zero (x ∷ xs) only zero d lt at = refl
only_place p zero (x ∷ xs) only (suc j) d lt at =
    absurd (not_true (list_any p xs) only (list_any_at p xs j d (omega arith) at))
only_place p (suc k) (x ∷ xs) only zero d lt at = absurd (not_true (p x) (and_first _ _ only) at)
only_place p (suc k) (x ∷ xs) only (suc j) d lt at =
    ap suc (only_place p k xs (and_second _ _ only) j d (omega arith) at)

-- an element of a list, seen through a function
pub seen_at : {X Y : Type 0} (f : X → Y) (xs : List X) (k : ℕ) (d : X)
    → f (slice_index_or xs k d) ≡ slice_index_or (map f xs) k (f d)
seen_at f [] k d = refl
seen_at f (x ∷ xs) zero d = refl
seen_at f (x ∷ xs) (suc k) d = seen_at f xs k d
