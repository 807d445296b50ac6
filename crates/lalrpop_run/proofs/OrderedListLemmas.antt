-- Lists whose elements are in order, made of others: for the order in which conflicts are told.
use Rattle.std.proofs.Common.{◌≡◌, ◌<◌, ◌≤◌, ◌⊎◌, inl, inr, ℕ, zero, suc, ◌+◌, List, [], ◌∷◌, ◌++◌, length, map, filter}
use Rattle.std.proofs.Common.{Bool, true, false, cond, Some, ap, refl, subst, arith, Contains}
use Rattle.std.specs.Prelude.{flat_map, slice_get}
use Rattle.std.specs.List.{range_with_len}
use Rattle.std.proofs.lemmas.Option.{slice_get_within}
use Rattle.lalrpop_lr1_theory.proofs.ListLemmas.{contains_get, contains_here, contains_later, get_contains, get_split}
use Rattle.lalrpop_lr1_theory.proofs.StepLemmas.{some_same}
use Rattle.lalrpop_lr1_core.specs.Conflicts.{later_pairs}
use Rattle.lalrpop_lr1_core.proofs.GraphLemmas.{in_flat}
use Rattle.lalrpop_lr1_core.proofs.MemberLemmas.{in_filter, in_map, in_pairs, in_range}
use Rattle.lalrpop_lr1_core.proofs.NoConflictLemmas.{at_mapped}

-- each element is in order with those behind it
abbrev pub AreInOrder : {X : Type 0} → (X → X → Type 0) → List X → Type 0
AreInOrder {X} R xs = (i j : ℕ) (x y : X) → i < j → slice_get xs i ≡ Some x → slice_get xs j ≡ Some y → R x y

pub none_in_order : {X : Type 0} (R : X → X → Type 0) → AreInOrder R []
none_in_order R i j x y l e f = let w : ⊥ = cc in absurd w

pub one_in_order : {X : Type 0} (R : X → X → Type 0) (x : X) → AreInOrder R (x ∷ [])
one_in_order R x i zero y z l e f = absurd (omega (arith, l))
one_in_order R x i (suc j) y z l e f = let w : ⊥ = cc in absurd w

pub in_order_behind : {X : Type 0} (R : X → X → Type 0) (x : X) (xs : List X) → AreInOrder R (x ∷ xs) → AreInOrder R xs
in_order_behind R x xs o i j y z l e f = o (suc i) (suc j) y z (omega (arith, l)) e f

pub first_in_order : {X : Type 0} (R : X → X → Type 0) (x : X) (xs : List X) → AreInOrder R (x ∷ xs) → (y : X) → Contains xs y
    → R x y
first_in_order R x xs o y c = let at = contains_get xs y c in o 0 (suc at.0) x y (omega arith) refl at.1

-- a place in two lists, one behind the other, is in one of them
abbrev StandsInOne : {X : Type 0} → List X → List X → ℕ → X → Type 0
StandsInOne xs ys k z = (slice_get xs k ≡ Some z) ⊎ ((n : ℕ) × (k ≡ length xs + n) × (slice_get ys n ≡ Some z))

pub joined_in_order : {X : Type 0} (R : X → X → Type 0) (xs ys : List X) → AreInOrder R xs → AreInOrder R ys
    → ((x y : X) → Contains xs x → Contains ys y → R x y) → AreInOrder R (xs ++ ys)
joined_in_order R xs ys a b cross i j x y l e f = go (get_split xs ys i x e) (get_split xs ys j y f)
  where
    go : StandsInOne xs ys i x → StandsInOne xs ys j y → R x y
    go (inl h) (inl g) = a i j x y l h g
    go (inl h) (inr g) = cross x y (get_contains xs i x h) (get_contains ys g.0 y g.2)
    go (inr h) (inl g) = absurd (omega (arith, l, h.1, slice_get_within xs j y g))
    go (inr h) (inr g) = b h.0 g.0 x y (omega (arith, l, h.1, g.1)) h.2 g.2

pub flat_in_order : {X Y : Type 0} (R : Y → Y → Type 0) (f : X → List Y) (xs : List X)
    → ((x : X) → Contains xs x → AreInOrder R (f x))
    → AreInOrder (λ a b. (y z : Y) → Contains (f a) y → Contains (f b) z → R y z) xs → AreInOrder R (flat_map f xs)
flat_in_order R f [] each cross = none_in_order R
flat_in_order {X} {Y} R f (x ∷ xs) each cross =
    joined_in_order R (f x) (flat_map f xs) (each x (contains_here x xs))
    (flat_in_order R f xs (λ y c. each y (contains_later x y xs c))
    (in_order_behind (λ a b. (y z : Y) → Contains (f a) y → Contains (f b) z → R y z) x xs cross))
    (λ y z c d.
    let r = in_flat f xs z d in
    first_in_order (λ a b. (y z : Y) → Contains (f a) y → Contains (f b) z → R y z) x xs cross r.0 r.1 y z c r.2)

pub map_in_order : {X Y : Type 0} (R : Y → Y → Type 0) (f : X → Y) (xs : List X) → AreInOrder (λ a b. R (f a) (f b)) xs
    → AreInOrder R (map f xs)
map_in_order R f xs o i j x y l e h =
    let a = at_mapped f xs i x e in
    let b = at_mapped f xs j y h in
    subst (λ z. R z y) a.2 (subst (R (f a.0)) b.2 (o i j a.0 b.0 l a.1 b.1))

-- of the pairs of each with one behind it, the first decides, then the second
abbrev pub IsPairBefore : {X : Type 0} → (X → X → Type 0) → X × X → X × X → Type 0
IsPairBefore R p q = R p.0 q.0 ⊎ ((p.0 ≡ q.0) × R p.1 q.1)

pub pairs_in_order : {X : Type 0} (R : X → X → Type 0) (xs : List X) → AreInOrder R xs → AreInOrder (IsPairBefore R) (later_pairs xs)
pairs_in_order R [] o = none_in_order (IsPairBefore R)
pairs_in_order {X} R (x ∷ xs) o =
    joined_in_order (IsPairBefore R) (map (λ y. (x, y)) xs) (later_pairs xs)
    (map_in_order (IsPairBefore R) (λ y. (x, y)) xs (λ i j a b l e f. inr (refl, in_order_behind R x xs o i j a b l e f)))
    (pairs_in_order R xs (in_order_behind R x xs o)) cross
  where
    cross : (p q : X × X) → Contains (map (λ y. (x, y)) xs) p → Contains (later_pairs xs) q → IsPairBefore R p q
    cross p q c d =
        let m = in_map (λ y. (x, y)) xs p c in
        let k = in_pairs xs q.0 q.1 d in
        let same : x ≡ p.0 = ap (λ (v : X × X). v.0) m.2 in
        inl (subst (λ z. R z q.0) same (first_in_order R x xs o q.0 (get_contains xs k.0 q.0 k.3)))

pub range_in_order : (a n : ℕ) → AreInOrder (λ j k. j < k) (range_with_len a n)
range_in_order a zero = none_in_order (λ j k. j < k)
range_in_order a (suc n) =
    joined_in_order (λ j k. j < k) (a ∷ []) (range_with_len (a + 1) n) (one_in_order (λ j k. j < k) a) (range_in_order (a + 1) n)
    (λ x y c d. let r = in_range (a + 1) n y d in only x y (contains_get (a ∷ []) x c) r.0)
  where
    only : (x y : ℕ) → (k : ℕ) × (slice_get (a ∷ []) k ≡ Some x) → a + 1 ≤ y → x < y
    only x y at l = go at.0 at.1
      where
        go : (k : ℕ) → slice_get (a ∷ []) k ≡ Some x → x < y
        go zero e = omega (arith, l, some_same a x e)
        go (suc k) e = let w : ⊥ = cc in absurd w

-- an element of a list with others left out stands in the list, in the same order
pub filter_in_order : {X : Type 0} (R : X → X → Type 0) (p : X → Bool) (xs : List X) → AreInOrder R xs → AreInOrder R (filter p xs)
filter_in_order R p [] o = none_in_order R
filter_in_order {X} R p (x ∷ xs) o = go (p x) (filter_in_order R p xs (in_order_behind R x xs o))
  where
    go : (b : Bool) → AreInOrder R (filter p xs) → AreInOrder R (cond b (x ∷ filter p xs) (filter p xs))
    go false deeper = deeper
    go true deeper =
        joined_in_order R (x ∷ []) (filter p xs) (one_in_order R x) deeper
        (λ y z c d. first y (contains_get (x ∷ []) y c) z (in_filter p xs z d).1)
      where
        first : (y : X) → (k : ℕ) × (slice_get (x ∷ []) k ≡ Some y) → (z : X) → Contains xs z → R y z
        first y at z d = by at.0 at.1
          where
            by : (k : ℕ) → slice_get (x ∷ []) k ≡ Some y → R y z
            by zero e = subst (λ v. R v z) (some_same x y e) (first_in_order R x xs o z d)
            by (suc k) e = let w : ⊥ = cc in absurd w
