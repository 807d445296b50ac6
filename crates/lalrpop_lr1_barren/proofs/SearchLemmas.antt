-- What a binary search finds in a list of references in order: for the numbers of names and of productions.
use Rattle.std.proofs.Common.{◌≡◌, ◌∙◌, ℕ, zero, suc, ◌<◌, ◌≤◌, List, []}
use Rattle.std.proofs.Common.{◌∷◌, length, get_or}
use Rattle.std.proofs.Common.{refl, sym, ap, subst, arith, ⊎_elim, Some, slice_get, Contains, Result, Ok, Err}
use Rattle.std.specs.Borrow.{Bor}
use Rattle.std.specs.Cmp.{IsTotalOrder}
use Rattle.std.specs.List.{AllByRecursion}
use Rattle.std.specs.List.Sorted.{IsBinarySearchResult, IsNonDecreasingBy, IsSearchInRange, IsStrictlySortedBy}
use Rattle.std.specs.Ordering.{ordering_index, ordering_reverse}
use Rattle.std.specs.declared.cmp.Ordering.{Ordering}
use Rattle.std.specs.declared.cmp.Ordering.TheVariants.{Equal, Greater, Less}
use Rattle.std.proofs.lemmas.Bool.{cases_lt}
use Rattle.std.proofs.lemmas.Option.{get_or_from_slice_get, slice_get-get_or, slice_get_within}
use Rattle.lalrpop_lr1_theory.proofs.ListLemmas.{contains_get}
use Rattle.lalrpop_lr1_theory.proofs.StepLemmas.{some_same}
use Rattle.lalrpop_lr1_core.proofs.NoConflictLemmas.{at_mapped, mapped_at}
use Rattle.lalrpop_lr1_first.specs.Listings.{lent}

-- what stands at a place
there : {X : Type 0} (xs : List X) (i : ℕ) → i < length xs → (x : X) × (slice_get xs i ≡ Some x)
there [] i h = absurd (omega (arith, h))
there (x ∷ xs) i h = (get_or (x ∷ xs) i x, slice_get-get_or (x ∷ xs) i x h)

below_any : (o p : Ordering) → o ≡ Less → ordering_index o ≤ ordering_index p
below_any Less p e = omega arith
below_any Equal p e = let w : ⊥ = cc in absurd w
below_any Greater p e = let w : ⊥ = cc in absurd w

above_any : (o p : Ordering) → p ≡ Greater → ordering_index o ≤ ordering_index p
above_any Less Greater e = omega arith
above_any Equal Greater e = omega arith
above_any Greater Greater e = omega arith
above_any o Less e = let w : ⊥ = cc in absurd w
above_any o Equal e = let w : ⊥ = cc in absurd w

pub self_equal : (o : Ordering) → o ≡ ordering_reverse o → o ≡ Equal
self_equal Less e = let w : ⊥ = cc in absurd w
self_equal Equal e = refl
self_equal Greater e = let w : ⊥ = cc in absurd w

all_there : {X : Type 0} (P : X → Type 0) (xs : List X) (i : ℕ) (x : X) → AllByRecursion P xs → slice_get xs i ≡ Some x → P x
all_there P [] i x h e = let w : ⊥ = cc in absurd w
all_there P (y ∷ xs) zero x h e = subst P (some_same y x e) h.0
all_there P (y ∷ xs) (suc i) x h e = all_there P xs i x h.1 e

module _ {X : Type 0} (R : X → X → Ordering) (exact : (x y : X) → R x y ≡ Equal → x ≡ y) (total : IsTotalOrder R) where
  self_is : (x : X) → R x x ≡ Equal
  self_is x = self_equal (R x x) (total.antisymm x x)

  -- of two places the first is less
  less_before : (ys : List X) → IsStrictlySortedBy R ys → (i j : ℕ) (a b : X) → i < j → slice_get ys i ≡ Some a →
      slice_get ys j ≡ Some b → R a b ≡ Less
  unfolding IsStrictlySortedBy
  less_before [] s i j a b l e f = let w : ⊥ = cc in absurd w
  less_before (y ∷ ys) s zero zero a b l e f = absurd (omega (arith, l))
  less_before (y ∷ ys) s zero (suc j) a b l e f =
      all_there (λ z. R a z ≡ Less) ys j b (subst (λ z. AllByRecursion (λ w. R z w ≡ Less) ys) (some_same y a e) s.0) f
  less_before (y ∷ ys) s (suc i) zero a b l e f = absurd (omega (arith, l))
  less_before (y ∷ ys) s (suc i) (suc j) a b l e f = less_before ys s.1 i j a b (omega (arith, l)) e f

  module _ (xs : List (Bor X)) (sorted : IsStrictlySortedBy R (lent xs)) (x : X) where
    abbrev pub order_to : Bor X → Ordering
    order_to y = R y.now x

    -- what is less stands before
    step_rises : (a b : X) → R a b ≡ Less → ordering_index (R a x) ≤ ordering_index (R b x)
    step_rises a b less = go (R b x) refl
      where
        go : (o : Ordering) → R b x ≡ o → ordering_index (R a x) ≤ ordering_index (R b x)
        go Less e = below_any (R a x) (R b x) (total.trans a b x less e)
        go Equal e = below_any (R a x) (R b x) (subst (λ z. R a z ≡ Less) (exact b x e) less)
        go Greater e = above_any (R a x) (R b x) e

    rises : IsNonDecreasingBy (λ y. ordering_index (order_to y)) xs
    rises i j d le within = ⊎_elim apart same (cases_lt i j)
      where
        a : (y : Bor X) × (slice_get xs i ≡ Some y)
        a = (get_or xs i d, slice_get-get_or xs i d (omega (arith, le, within)))

        b : (y : Bor X) × (slice_get xs j ≡ Some y)
        b = (get_or xs j d, slice_get-get_or xs j d within)

        apart : i < j → ordering_index (order_to (get_or xs i d)) ≤ ordering_index (order_to (get_or xs j d))
        apart l =
            let less = less_before (lent xs) sorted i j a.0.now b.0.now l (mapped_at (λ z. z.now) xs i a.0 a.1)
            (mapped_at (λ z. z.now) xs j b.0 b.1) in
            subst (λ y. ordering_index (order_to y) ≤ ordering_index (order_to (get_or xs j d)))
            (sym (get_or_from_slice_get xs i a.0 d a.1))
            (subst (λ y. ordering_index (order_to a.0) ≤ ordering_index (order_to y)) (sym (get_or_from_slice_get xs j b.0 d b.1))
            (step_rises a.0.now b.0.now less))

        same : j ≤ i → ordering_index (order_to (get_or xs i d)) ≤ ordering_index (order_to (get_or xs j d))
        same l =
            let one : i ≡ j = omega (arith, l, le) in
            subst (λ k. ordering_index (order_to (get_or xs i d)) ≤ ordering_index (order_to (get_or xs k d))) one (omega arith)

    -- the search ends at a place of the element
    pub search_found : (r : Result ℕ ℕ) → IsSearchInRange r (length xs) → IsBinarySearchResult order_to xs r → (k : ℕ) →
        r ≡ Ok k → slice_get (lent xs) k ≡ Some x
    search_found (Ok i) range found k e =
        let y = there xs i range in
        let equal : R y.0.now x ≡ Equal = subst (λ z. order_to z ≡ Equal) (get_or_from_slice_get xs i y.0 y.0 y.1) (found y.0) in
        let here : i ≡ k = cc in
        subst (λ j. slice_get (lent xs) j ≡ Some x) here (mapped_at (λ z. z.now) xs i y.0 y.1 ∙ ap Some (exact y.0.now x equal))
    search_found (Err i) range found k e = let w : ⊥ = cc in absurd w

    -- it ends at no place where there is none
    pub search_missed : (r : Result ℕ ℕ) → IsBinarySearchResult order_to xs r → (k : ℕ) → r ≡ Err k →
        Contains (lent xs) x → ⊥
    search_missed (Ok i) parts k e c = cc
    search_missed (Err i) parts k e c =
        let g = contains_get (lent xs) x c in
        let y = at_mapped (λ z. z.now) xs g.0 x g.1 in
        let point = parts rises in
        let equal : R y.0.now x ≡ Equal = ap (λ z. R z x) y.2 ∙ self_is x in
        let read = get_or_from_slice_get xs g.0 y.0 y.0 y.1 in
        ⊎_elim
        (λ l. let less : R y.0.now x ≡ Less = subst (λ z. order_to z ≡ Less) read (point.0 g.0 y.0 (omega arith) l) in
        let both : Less ≡ Equal = sym less ∙ equal in let w : ⊥ = cc in w)
        (λ l. let greater : R y.0.now x ≡ Greater =
        subst (λ z. order_to z ≡ Greater) read (point.1 g.0 y.0 l (slice_get_within xs g.0 y.0 y.1)) in
        let both : Greater ≡ Equal = sym greater ∙ equal in let w : ⊥ = cc in w)
        (cases_lt g.0 i)
