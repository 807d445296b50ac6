-- Lists in a strict order with the same elements are one, so states whose items ascend have those of one core in one order.
use Rattle.std.proofs.Common.{◌≡◌, ◌⊎◌, ℕ, zero, suc, ◌<◌, List, [], ◌∷◌, map, Some, refl, sym, ap, subst, inl}
use Rattle.std.proofs.Common.{inr, ⊎_elim}
use Rattle.std.proofs.Common.{arith, Contains, ◌∙◌}
use Rattle.std.specs.Prelude.{slice_get}
use Rattle.lalrpop_lr1_theory.specs.Productions.{Production}
use Rattle.lalrpop_lr1_theory.specs.States.{HasItem, Item, State}
use Rattle.lalrpop_lr1_theory.specs.CanonicalStates.{HaveItemsAscending}
use Rattle.lalrpop_lr1_theory.proofs.CheckedLemmas.{same_state}
use Rattle.lalrpop_lr1_theory.proofs.ListLemmas.{contains_get, contains_here, contains_later, contains_split}
use Rattle.lalrpop_lr1_theory.specs.JoinedStates.{HaveCoresInOrder, item_core, state_core}
use Rattle.lalrpop_lr1_theory.proofs.NameLemmas.{no_element}

-- elements of a list of images, and images of its elements
pub image_of : {X Y : Type 0} (f : X → Y) (xs : List X) (y : Y) → Contains (map f xs) y → (x : X) × Contains xs x × (f x ≡ y)
image_of f [] y c = absurd (no_element y c)
image_of {X} {Y} f (z ∷ zs) y c = go (image_of f zs y) (contains_split (f z) y (map f zs) c)
  where
    go : (Contains (map f zs) y → (x : X) × Contains zs x × (f x ≡ y)) → (f z ≡ y) ⊎ Contains (map f zs) y →
        (x : X) × Contains (z ∷ zs) x × (f x ≡ y)
    go deeper (inl e) = (z, contains_here z zs, e)
    go deeper (inr d) = let r : (x : X) × Contains zs x × (f x ≡ y) = deeper d in (r.0, contains_later z r.0 zs r.1, r.2)

-- a mapped list has the image of each element of the list
pub image_there : {X Y : Type 0} (f : X → Y) (xs : List X) (x : X) → Contains xs x → Contains (map f xs) (f x)
image_there f [] x c = absurd (no_element x c)
image_there f (z ∷ zs) x c = go (image_there f zs x) (contains_split z x zs c)
  where
    go : (Contains zs x → Contains (map f zs) (f x)) → (z ≡ x) ⊎ Contains zs x → Contains (f z ∷ map f zs) (f x)
    go deeper (inl e) = subst (λ y. Contains (f z ∷ map f zs) (f y)) e (contains_here (f z) (map f zs))
    go deeper (inr d) = contains_later (f z) (f x) (map f zs) (deeper d)

-- a mapped list has at a place the image of what the list has there
pub image_get : {X Y : Type 0} (f : X → Y) (xs : List X) (k : ℕ) (x : X) → slice_get xs k ≡ Some x →
    slice_get (map f xs) k ≡ Some (f x)
image_get f [] k x e = let z : ⊥ = cc in absurd z
image_get f (y ∷ xs) zero x e = ap Some (ap f (let z : y ≡ x = cc in z))
image_get f (y ∷ xs) (suc k) x e = image_get f xs k x e

-- what a mapped list has at a place is the image of what the list has there
pub get_image : {X Y : Type 0} (f : X → Y) (xs : List X) (k : ℕ) (y : Y) → slice_get (map f xs) k ≡ Some y →
    (x : X) × (slice_get xs k ≡ Some x) × (f x ≡ y)
get_image f [] k y e = let z : ⊥ = cc in absurd z
get_image f (x ∷ xs) zero y e = (x, refl, let z : f x ≡ y = cc in z)
get_image f (x ∷ xs) (suc k) y e = get_image f xs k y e

-- each element comes before those behind it
abbrev pub AreInOrder : {X : Type 0} → (X → X → Type 0) → List X → Type 0
AreInOrder {X} Less xs = (j k : ℕ) (x y : X) → j < k → slice_get xs j ≡ Some x → slice_get xs k ≡ Some y → Less x y

module _ {X : Type 0} (Less : X → X → Type 0) (strict : (x y : X) → Less x y → Less y x → ⊥) where
  first_less : (x y : X) (xs : List X) → AreInOrder Less (x ∷ xs) → Contains xs y → Less x y
  first_less x y xs order c = let g = contains_get xs y c in order 0 (suc g.0) x y (omega arith) refl g.1

  behind : (x : X) (xs : List X) → AreInOrder Less (x ∷ xs) → AreInOrder Less xs
  behind x xs order j k y z l e f = order (suc j) (suc k) y z (omega (arith, l)) e f

  heads_same : (x y : X) (xs ys : List X) → AreInOrder Less (x ∷ xs) → AreInOrder Less (y ∷ ys) →
      Contains (y ∷ ys) x → Contains (x ∷ xs) y → x ≡ y
  heads_same x y xs ys o p c d =
      ⊎_elim (λ e. sym e)
      (λ f. ⊎_elim (λ e. e) (λ g. absurd (strict x y (first_less x y xs o g) (first_less y x ys p f))) (contains_split x y xs d))
      (contains_split y x ys c)

  tail_in : (x : X) (xs ys : List X) → AreInOrder Less (x ∷ xs) → ((z : X) → Contains (x ∷ xs) z → Contains (x ∷ ys) z) →
      (z : X) → Contains xs z → Contains ys z
  tail_in x xs ys o within z c =
      ⊎_elim (λ e. absurd (let l = first_less x z xs o c in let m = subst (λ w. Less w z) e l in strict z z m m)) (λ d. d)
      (contains_split x z ys (within z (contains_later x z xs c)))

  -- lists in a strict order with the same elements are one
  pub order_one : (xs ys : List X) → AreInOrder Less xs → AreInOrder Less ys →
      ((z : X) → Contains xs z → Contains ys z) → ((z : X) → Contains ys z → Contains xs z) → xs ≡ ys
  order_one [] [] o p f g = refl
  order_one [] (y ∷ ys) o p f g = absurd (no_element y (g y (contains_here y ys)))
  order_one (x ∷ xs) [] o p f g = absurd (no_element x (f x (contains_here x xs)))
  order_one (x ∷ xs) (y ∷ ys) o p f g =
      let same = heads_same x y xs ys o p (f x (contains_here x xs)) (g y (contains_here y ys)) in
      let f' = subst (λ w. (z : X) → Contains (x ∷ xs) z → Contains (w ∷ ys) z) (sym same) f in
      let g' = subst (λ w. (z : X) → Contains (w ∷ ys) z → Contains (x ∷ xs) z) (sym same) g in
      let p' = subst (λ w. AreInOrder Less (w ∷ ys)) (sym same) p in
      ap (λ w. w ∷ xs) same ∙ ap (λ zs. y ∷ zs)
      (order_one xs ys (behind x xs o) (behind x ys p') (tail_in x xs ys o f') (tail_in x ys xs p' g'))

-- an order of items that lookaheads don't change
module _ (Before : Item → Item → Type 0) (strict : (a b : Item) → Before a b → Before b a → ⊥)
    (by_core : (a b c d : Item) → item_core a ≡ item_core c → item_core b ≡ item_core d → Before a b → Before c d)
    (states : List State) (order : HaveItemsAscending Before states) where
  -- one core is before another where items with these are
  record IsCoreBefore (c d : Production × ℕ) : Type 0 where
    one : Item
    other : Item
    one_is : item_core one ≡ c
    other_is : item_core other ≡ d
    before : Before one other

  core_strict : (c d : Production × ℕ) → IsCoreBefore c d → IsCoreBefore d c → ⊥
  core_strict c d h k =
      strict h.one h.other h.before
      (by_core k.one k.other h.other h.one (k.one_is ∙ sym h.other_is) (k.other_is ∙ sym h.one_is) k.before)

  core_ascends : (n : ℕ) (state : State) → slice_get states n ≡ Some state → AreInOrder IsCoreBefore (state_core state)
  core_ascends n state e j k c d l f g =
      let a = get_image item_core state.items j c f in
      let b = get_image item_core state.items k d g in
      record { one = a.0; other = b.0; one_is = a.2; other_is = b.2; before = order n state j k a.0 b.0 e l a.1 b.1 }

  core_within : (n m : ℕ) (a b : State) → slice_get states n ≡ Some a → slice_get states m ≡ Some b →
      ((p : Production) (i : ℕ) → HasItem states n p i → HasItem states m p i) → (c : Production × ℕ) →
      Contains (state_core a) c → Contains (state_core b) c
  core_within n m a b e f within c d =
      let r = image_of item_core a.items c d in
      let h = within r.0.production r.0.dot (record { state = a; lookahead = r.0.lookahead; at = e; held = r.1 }) in
      let there = image_there item_core h.state.items
      (record { production = r.0.production; dot = r.0.dot; lookahead = h.lookahead }) h.held in
      subst (Contains (state_core b)) r.2
      (subst (λ st. Contains (state_core st) (r.0.production, r.0.dot)) (same_state states m h.state b h.at f) there)

  pub ascending_order : HaveCoresInOrder states
  ascending_order n m a b e f same =
      order_one IsCoreBefore core_strict (state_core a) (state_core b) (core_ascends n a e) (core_ascends m b f)
      (core_within n m a b e f (λ p i. (same p i).0)) (core_within m n b a f e (λ p i. (same p i).1))
