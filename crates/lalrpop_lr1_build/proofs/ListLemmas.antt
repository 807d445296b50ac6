-- Places of lists, one element more, and all of them: for the loops of the collapse.
use Rattle.std.proofs.Common.{◌≡◌, ◌⊎◌, ℕ, zero, suc, ◌+◌, ◌<◌, ◌≤◌, List, [], ◌∷◌, ◌++◌}
use Rattle.std.proofs.Common.{length, take, map, get_or}
use Rattle.std.proofs.Common.{Some, refl, sym, ap, ◌∙◌, inl, inr, arith}
use Rattle.std.proofs.Common.{append-nil}
use Rattle.std.proofs.lemmas.List.Concat.{flat_map-append}
use Rattle.std.specs.Prelude.{flat_map, slice_get, slice_index_or}
use Rattle.lalrpop_lr1_theory.proofs.ListLemmas.{get_split}
use Rattle.lalrpop_lr1_theory.proofs.StepLemmas.{some_same}

-- taking one more than a place's number takes what stands there, behind those before it
pub take_get : {X : Type 0} (xs : List X) (i : ℕ) (x : X) → slice_get xs i ≡ Some x → take (i + 1) xs ≡ take i xs ++ x ∷ []
take_get {X} xs i x e = ap (λ k. take k xs) (let z : i + 1 ≡ suc i = omega arith in z) ∙ go xs i e
  where
    go : (xs : List X) (i : ℕ) → slice_get xs i ≡ Some x → take (suc i) xs ≡ take i xs ++ x ∷ []
    go [] i e = let z : ⊥ = cc in absurd z
    go (y ∷ xs) zero e = ap (λ z. z ∷ []) (some_same y x e)
    go (y ∷ xs) (suc i) e = ap (λ zs. y ∷ zs) (go xs i e)

-- taking at least as many as a list has takes all of it
pub take_whole : {X : Type 0} (xs : List X) (i : ℕ) → length xs ≤ i → take i xs ≡ xs
take_whole [] zero h = refl
take_whole [] (suc i) h = refl
take_whole (x ∷ xs) zero h = absurd (omega (arith, h))
take_whole (x ∷ xs) (suc i) h = ap (λ ys. x ∷ ys) (take_whole xs i (omega (arith, h)))

-- what is read at a place within a list with a default stands at that place
pub get_here : {X : Type 0} (xs : List X) (i : ℕ) (x : X) → i < length xs → x ≡ get_or xs i x → slice_get xs i ≡ Some x
get_here [] i x h e = absurd (omega (arith, h))
get_here (y ∷ xs) zero x h e = ap Some (sym e)
get_here (y ∷ xs) (suc i) x h e = get_here xs i x (omega (arith, h)) e

-- within a list of numbers, what is read with zero as the default stands at that place
pub index_here : (xs : List ℕ) (i : ℕ) → i < length xs → slice_get xs i ≡ Some (slice_index_or xs i 0)
index_here [] i h = absurd (omega (arith, h))
index_here (y ∷ xs) zero h = refl
index_here (y ∷ xs) (suc i) h = index_here xs i (omega (arith, h))

-- a list with one put behind is mapped to its image with that one's image put behind
pub map_last : {X Y : Type 0} (f : X → Y) (xs : List X) (x : X) → map f (xs ++ x ∷ []) ≡ map f xs ++ f x ∷ []
map_last f [] x = refl
map_last f (y ∷ xs) x = ap (λ ys. f y ∷ ys) (map_last f xs x)

-- an element behind a list is in it, or is the new one, at its length
pub get_more : {X : Type 0} (xs : List X) (x y : X) (k : ℕ) → slice_get (xs ++ x ∷ []) k ≡ Some y →
    (slice_get xs k ≡ Some y) ⊎ ((x ≡ y) × (k ≡ length xs))
get_more {X} xs x y k e = go (get_split xs (x ∷ []) k y e)
  where
    last : (j : ℕ) → k ≡ length xs + j → slice_get (x ∷ []) j ≡ Some y → (x ≡ y) × (k ≡ length xs)
    last zero f g = (some_same x y g, omega (arith, f))
    last (suc j) f g = let z : ⊥ = cc in absurd z

    go : (slice_get xs k ≡ Some y) ⊎ ((j : ℕ) × (k ≡ length xs + j) × (slice_get (x ∷ []) j ≡ Some y)) →
        (slice_get xs k ≡ Some y) ⊎ ((x ≡ y) × (k ≡ length xs))
    go (inl h) = inl h
    go (inr h) = inr (last h.0 h.1 h.2)

-- what each of the first elements gives, one more
pub flat_more : {X Y : Type 0} (f : X → List Y) (xs : List X) (i : ℕ) (x : X) → i < length xs → x ≡ get_or xs i x →
    flat_map f (take i xs) ++ f x ≡ flat_map f (take (i + 1) xs)
flat_more f xs i x h e =
    sym (ap (flat_map f) (take_get xs i x (get_here xs i x h e)) ∙ flat_map-append f (take i xs) (x ∷ [])
    ∙ ap (λ ys. flat_map f (take i xs) ++ ys) (append-nil (f x)))
