-- What lists gain by elements that are put in, and lists with places: for the items and the edges of states.
use Rattle.std.proofs.Common.{◌≡◌, ◌∙◌, ◌↔◌, ◌⊎◌, ℕ, zero, suc, ◌+◌, ◌<◌, Bool, true, false, ◌||◌}
use Rattle.std.proofs.Common.{List, [], ◌∷◌, ◌++◌}
use Rattle.std.proofs.Common.{length, take, map, get_or, refl, sym, ap, subst, inl, inr, ⊎_elim, arith, Contains, Some, slice_get}
use Rattle.std.proofs.Common.{append-nil, ◌≤◌}
use Rattle.std.proofs.lemmas.Option.{slice_get_within}
use Rattle.std.specs.Bool.{Decides}
use Rattle.std.specs.List.{enumerate_from, list_any}
use Rattle.std.specs.Prelude.{flat_map, if◌then◌else◌}
use Rattle.std.proofs.lemmas.List.{length-take, take_more}
use Rattle.std.proofs.lemmas.List.Concat.{flat_map-append}
use Rattle.std.proofs.lemmas.List.Elements.{Contains-append_cases, Contains-append_left, Contains-append_right}
use Rattle.lalrpop_lr1_theory.proofs.ListLemmas.{contains_here, contains_later, contains_split}
use Rattle.lalrpop_lr1_theory.proofs.StepLemmas.{some_same}
use Rattle.lalrpop_lr1_check_lookaheads.specs.ListTests.{GainsElements, HaveSameElements, HoldsAtEach, HoldsAtFirst, of_each_place}
use Rattle.lalrpop_lr1_theory.proofs.NameLemmas.{no_element}
use Rattle.lalrpop_lr1_core.proofs.GraphLemmas.{in_flat, flat_has, in_places, places_have}
use Rattle.lalrpop_lr1_core.proofs.EdgeLemmas.{enumerate-push}

-- a list that stays as it is gains nothing
pub gains_none : {X : Type 0} (a : List X) → GainsElements a a []
gains_none a x = (λ c. inl c, λ h. ⊎_elim (λ c. c) (λ c. absurd (no_element x c)) h)

-- what a list gains in two steps it gains in one, the second part behind the first
pub gains_more : {X : Type 0} (a b c xs ys : List X) → GainsElements a b xs → GainsElements b c ys → GainsElements a c (xs ++ ys)
gains_more a b c xs ys h k x = (
  λ e. ⊎_elim
      (λ f. ⊎_elim (λ g. inl g) (λ g. inr (Contains-append_left xs ys x g)) ((h x).0 f))
      (λ f. inr (Contains-append_right xs ys x f)) ((k x).0 e),
  λ e. (k x).1 (⊎_elim
      (λ f. inl ((h x).1 (inl f)))
      (λ f. ⊎_elim (λ g. inl ((h x).1 (inr g))) (λ g. inr g) (Contains-append_cases xs ys x f)) e),
)

-- gained by nothing
pub gained_all : {X : Type 0} (new xs : List X) → GainsElements [] new xs → HaveSameElements new xs
gained_all new xs a x = (λ c. ⊎_elim (λ d. absurd (no_element x d)) (λ d. d) ((a x).0 c), λ c. (a x).1 (inr c))

mapped_one : {X Y : Type 0} (f : X → Y) (ys : List X) (y : X) → map f (ys ++ y ∷ []) ≡ map f ys ++ f y ∷ []
mapped_one f [] y = refl
mapped_one f (z ∷ ys) y = ap (λ l. f z ∷ l) (mapped_one f ys y)

module _ {X Y : Type 0} (f : X → Y) (eq : X → X → Bool) (same : (a b : X) → Decides (eq a b) (f a ≡ f b)) where
  -- an element that passes as equal is there, and the other way round
  pub any_there : (ks : List X) (k : X) → list_any (eq k) ks ≡ true → Contains (map f ks) (f k)
  any_there [] k e = let z : ⊥ = cc in absurd z
  any_there (y ∷ ks) k e = go (eq k y) refl e (any_there ks k)
    where
      go : (b : Bool) → eq k y ≡ b → (b || list_any (eq k) ks) ≡ true →
          (list_any (eq k) ks ≡ true → Contains (map f ks) (f k)) →
          Contains (f y ∷ map f ks) (f k)
      go true h g rec = subst (Contains (f y ∷ map f ks)) (sym ((same k y).0 h)) (contains_here (f y) (map f ks))
      go false h g rec = contains_later (f y) (f k) (map f ks) (rec g)

  pub there_any : (ks : List X) (k : X) → Contains (map f ks) (f k) → list_any (eq k) ks ≡ true
  there_any [] k c = absurd (no_element (f k) c)
  there_any (y ∷ ks) k c = go (eq k y) refl (there_any ks k) (contains_split (f y) (f k) (map f ks) c)
    where
      go : (b : Bool) → eq k y ≡ b → (Contains (map f ks) (f k) → list_any (eq k) ks ≡ true) →
          (f y ≡ f k) ⊎ Contains (map f ks) (f k) → (b || list_any (eq k) ks) ≡ true
      go true h rec d = refl
      go false h rec (inl e) =
          let z : eq k y ≡ true = (same k y).1 (sym e) in
          let w : ⊥ = cc in absurd w
      go false h rec (inr d) = rec d

  -- one is put in, where none that is equal stands
  pub gains_one : (ks ys : List X) (k : X) → ys ≡ (if list_any (eq k) ks then ks else ks ++ k ∷ []) →
      GainsElements (map f ks) (map f ys) (f k ∷ [])
  gains_one ks ys k e = go (list_any (eq k) ks) refl e
    where
      go : (b : Bool) → list_any (eq k) ks ≡ b → ys ≡ (if b then ks else ks ++ k ∷ []) →
          GainsElements (map f ks) (map f ys) (f k ∷ [])
      go true h g x = (
        λ c. inl (subst (λ l. Contains (map f l) x) g c),
        λ d. subst (λ l. Contains (map f l) x) (sym g) (⊎_elim (λ c. c)
            (λ c. ⊎_elim (λ z. subst (Contains (map f ks)) z (any_there ks k h)) (λ z. absurd (no_element x z))
            (contains_split (f k) x [] c)) d),
      )
      go false h g x = (
        λ c. Contains-append_cases (map f ks) (f k ∷ []) x
            (subst (λ l. Contains l x) (ap (map f) g ∙ mapped_one f ks k) c),
        λ d. subst (λ l. Contains l x) (sym (ap (map f) g ∙ mapped_one f ks k))
            (⊎_elim (λ c. Contains-append_left (map f ks) (f k ∷ []) x c) (λ c. Contains-append_right (map f ks) (f k ∷ []) x c) d),
      )

-- one element more is taken
pub taken_one : {X : Type 0} (xs : List X) (i : ℕ) (x : X) → i < length xs → x ≡ get_or xs i x →
    take (i + 1) xs ≡ take i xs ++ x ∷ []
taken_one xs i x h e = take_more xs i x h ∙ ap (λ y. take i xs ++ y ∷ []) (sym e)

-- the images of one more of the first of a list are those so far and then that one's
pub mapped_taken : {X Y : Type 0} (f : X → Y) (xs : List X) (i : ℕ) (x : X) → i < length xs → x ≡ get_or xs i x →
    map f (take (i + 1) xs) ≡ map f (take i xs) ++ f x ∷ []
mapped_taken f xs i x h e = ap (map f) (taken_one xs i x h e) ∙ mapped_one f (take i xs) x

-- what comes of one place more
pub each_place_more : {X Y : Type 0} (f : ℕ → X → List Y) (xs : List X) (i : ℕ) (x : X) → i < length xs → x ≡ get_or xs i x
    →
    of_each_place f (take (i + 1) xs) ≡ of_each_place f (take i xs) ++ f i x
each_place_more {X} {Y} f xs i x h e =
    let place : 0 + length (take i xs) ≡ i = omega (arith, length-take i xs) in
    let g : ℕ × X → List Y = λ (z : ℕ × X). f z.0 z.1 in
    ap (of_each_place f) (taken_one xs i x h e) ∙ ap (flat_map g) (enumerate-push 0 (take i xs) x)
    ∙ flat_map-append g (enumerate_from 0 (take i xs)) ((0 + length (take i xs), x) ∷ [])
    ∙ ap (λ l. of_each_place f (take i xs) ++ l) (append-nil (f (0 + length (take i xs)) x) ∙ ap (λ m. f m x) place)

-- what comes of the places comes of one of them
pub of_a_place : {X Y : Type 0} (f : ℕ → X → List Y) (xs : List X) (y : Y) → Contains (of_each_place f xs) y →
    (k : ℕ) × (x : X) × (slice_get xs k ≡ Some x) × Contains (f k x) y
of_a_place {X} {Y} f xs y c =
    let r = in_flat (λ (z : ℕ × X). f z.0 z.1) (enumerate_from 0 xs) y c in
    let p = in_places 0 xs r.0 r.1 in
    let place : r.0.0 ≡ p.0 = omega (arith, p.1) in
    (p.0, r.0.1, p.2, subst (λ k. Contains (f k r.0.1) y) place r.2)

-- what comes of an element with its place is among what comes of all of them
pub at_a_place : {X Y : Type 0} (f : ℕ → X → List Y) (xs : List X) (k : ℕ) (x : X) (y : Y) → slice_get xs k ≡ Some x →
    Contains (f k x) y → Contains (of_each_place f xs) y
at_a_place {X} {Y} f xs k x y e c =
    let place : 0 + k ≡ k = omega arith in
    flat_has (λ (z : ℕ × X). f z.0 z.1) (enumerate_from 0 xs) (0 + k, x) y (places_have 0 xs k x e)
    (subst (λ j. Contains (f j x) y) (sym place) c)

-- tests that go along a list
pub first_none : {X : Type 0} (P : ℕ → X → Type 0) (xs : List X) → HoldsAtFirst P xs 0
first_none P xs k x h e = absurd (omega (arith, h))

read_at : {X : Type 0} (xs : List X) (n : ℕ) (x y : X) → n < length xs → x ≡ get_or xs n x → slice_get xs n ≡ Some y → x ≡ y
read_at [] n x y h e f = absurd (omega arith)
read_at (z ∷ xs) zero x y h e f = e ∙ some_same z y f
read_at (z ∷ xs) (suc n) x y h e f = read_at xs n x y (omega arith) e f

-- what is read at a place within a list with a default stands at that place
pub get_at : {X : Type 0} (xs : List X) (n : ℕ) (x : X) → n < length xs → x ≡ get_or xs n x → slice_get xs n ≡ Some x
get_at [] n x h e = absurd (omega arith)
get_at (z ∷ xs) zero x h e = ap Some (sym e)
get_at (z ∷ xs) (suc n) x h e = get_at xs n x (omega arith) e

-- what holds at the first places and at the next one holds at one place more
pub first_more : {X : Type 0} (P : ℕ → X → Type 0) (xs : List X) (n : ℕ) (x : X) → n < length xs → x ≡ get_or xs n x → P n x
    →
    HoldsAtFirst P xs n → HoldsAtFirst P xs (n + 1)
first_more {X} P xs n x h e p before k y l f = go (cases k n l)
  where
    cases : (a b : ℕ) → a < b + 1 → (a < b) ⊎ (b ≡ a)
    cases zero zero l = inr refl
    cases zero (suc b) l = inl (omega arith)
    cases (suc a) zero l = absurd (omega (arith, l))
    cases (suc a) (suc b) l = ⊎_elim (λ c. inl (omega (arith, c))) (λ c. inr (ap suc c)) (cases a b (omega (arith, l)))

    go : (k < n) ⊎ (n ≡ k) → P k y
    go (inl c) = before k y c f
    go (inr c) =
        let g : slice_get xs n ≡ Some y = ap (slice_get xs) c ∙ f in
        subst (λ j. P j y) c (subst (P n) (read_at xs n x y h e g) p)

-- what holds at as many first places as a list has holds at each place
pub first_all : {X : Type 0} (P : ℕ → X → Type 0) (xs : List X) (n : ℕ) → length xs ≤ n → HoldsAtFirst P xs n → HoldsAtEach
    P xs
first_all P xs n h all k x e = all k x (omega (arith, h, slice_get_within xs k x e)) e

-- one place at which it doesn't hold
pub not_each : {X : Type 0} (P : ℕ → X → Type 0) (xs : List X) (n : ℕ) (x : X) → n < length xs → x ≡ get_or xs n x →
    (P n x → ⊥) → HoldsAtEach P xs → ⊥
not_each P xs n x h e fails all = fails (all n x (get_at xs n x h e))

-- a test of each place that stops at one, goes on over one, and has gone over all
pub each_fails : {X : Type 0} (P : ℕ → X → Type 0) (xs : List X) (n : ℕ) (x : X) (r : Bool) → n < length xs → x ≡ get_or xs n
    x →
    ((r ≡ true) ↔ P n x) → r ≡ false → (◌≡◌ {A = Bool} false true) ↔ HoldsAtEach P xs
each_fails P xs n x r h e says fails = (
  λ z. let w : ⊥ = cc in absurd w,
  λ all. let both : true ≡ false = sym (says.1 (all n x (get_at xs n x h e))) ∙ fails in let w : ⊥ = cc in absurd w,
)

-- where the test of the next place passes, what holds at the first places holds at one place more
pub each_more : {X : Type 0} (P : ℕ → X → Type 0) (xs : List X) (n : ℕ) (x : X) (r : Bool) → n < length xs → x ≡ get_or xs n x
    →
    ((r ≡ true) ↔ P n x) → r ≡ true → HoldsAtFirst P xs n → HoldsAtFirst P xs (n + 1)
each_more P xs n x r h e says passes before = first_more P xs n x h e (says.0 passes) before

-- what held at each place up to the end holds at each place, as the answer true says
pub each_passes : {X : Type 0} (P : ℕ → X → Type 0) (xs : List X) (n : ℕ) → length xs ≤ n → HoldsAtFirst P xs n →
    (◌≡◌ {A = Bool} true true) ↔ HoldsAtEach P xs
each_passes P xs n h all = (λ z. first_all P xs n h all, λ z. refl)
