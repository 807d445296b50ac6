-- Elements of lists: by cases on the list, and through a map or a filter. For all proofs here.
use Rattle.std.proofs.Common.{◌≡◌, zero, ◌⊎◌, List, [], ◌∷◌, map, Contains, inl, inr, ⊎_elim, ap, ◌∙◌, refl}
use Rattle.std.proofs.Common.{subst, arith, Bool, true, false, cond, Option, Some, None}
use Rattle.std.specs.Prelude.{filter}
use Rattle.std.specs.Iterator.{YieldsFirstRef}
use denote.Ref.{Bor}
use Rattle.std.proofs.lemmas.List.Elements.{Contains-push_cases, Contains-append_right, Contains-append_cases, All-contains, All-filter}
use Rattle.std.proofs.lemmas.List.Elements.{All-contains_itself, filter_passes}

-- the empty list contains nothing
pub Contains-nil : {X : Type 0} (x : X) → Contains [] x → ⊥
Contains-nil x h = omega (arith, h.1)

-- an element is the first one, or one of the others
pub Contains-cons_cases : {X : Type 0} (y : X) (ys : List X) (x : X) → Contains (y ∷ ys) x → (y ≡ x) ⊎ Contains ys x
Contains-cons_cases y ys x h =
    ⊎_elim (λ one. ⊎_elim (λ never. absurd (Contains-nil x never)) inl (Contains-push_cases [] y x one)) inr
    (Contains-append_cases (y ∷ []) ys x h)

-- a list contains its first element
pub Contains-head : {X : Type 0} (x : X) (ys : List X) → Contains (x ∷ ys) x
Contains-head x ys = (zero, omega arith, refl)

-- a list contains what it contains behind its first element
pub Contains-tail : {X : Type 0} (y : X) (ys : List X) (x : X) → Contains ys x → Contains (y ∷ ys) x
Contains-tail y ys x h = Contains-append_right (y ∷ []) ys x h

-- the image of an element is an element of the images
pub Contains-map : {X Y : Type 0} (f : X → Y) (xs : List X) (x : X) → Contains xs x → Contains (map f xs) (f x)
Contains-map f [] x h = absurd (Contains-nil x h)
Contains-map f (y ∷ ys) x h =
    ⊎_elim (λ e. let P : _ → Type 0 = λ z. Contains (f y ∷ map f ys) (f z) in subst P e (Contains-head (f y) (map f ys)))
    (λ more. Contains-tail (f y) (map f ys) (f x) (Contains-map f ys x more))
    (Contains-cons_cases y ys x h)

-- an element of the images is the image of an element
pub Contains-from_map : {X Y : Type 0} (f : X → Y) (xs : List X) (y : Y) → Contains (map f xs) y → (x : X) × Contains xs x
    × (f x ≡ y)
Contains-from_map f [] y h = absurd (Contains-nil y h)
Contains-from_map f (x ∷ xs) y h =
    ⊎_elim (λ e. (x, Contains-head x xs, e)) (λ more. let z = Contains-from_map f xs y more in (z.0, Contains-tail x xs z.0 z.1, z.2))
    (Contains-cons_cases (f x) (map f xs) y h)

-- an element of a list of two is the one or the other
pub Contains-two : {X : Type 0} (a b x : X) → Contains (a ∷ b ∷ []) x → (a ≡ x) ⊎ (b ≡ x)
Contains-two a b x h = ⊎_elim inl (λ more. ⊎_elim inr (λ never. absurd (Contains-nil x never)) (Contains-cons_cases b [] x more))
    (Contains-cons_cases a (b ∷ []) x h)

-- what a filter keeps
pub Contains-filter : {X : Type 0} (p : X → Bool) (xs : List X) (x : X) → Contains xs x → p x ≡ true → Contains (filter p xs) x
Contains-filter p [] x h e = absurd (Contains-nil x h)
Contains-filter {X} p (y ∷ ys) x h e =
    ⊎_elim
    (λ same. rw (← same) (rw (ap p same ∙ e) (Contains-head y (filter p ys))))
    (λ more. keep (p y) (Contains-filter p ys x more e))
    (Contains-cons_cases y ys x h)
  where
    keep : (b : Bool) → Contains (filter p ys) x → Contains (cond b (y ∷ filter p ys) (filter p ys)) x
    keep true k = Contains-tail y (filter p ys) x k
    keep false k = k

-- what a filter keeps is an element, and passes
pub Contains-from_filter : {X : Type 0} (p : X → Bool) (xs : List X) (x : X) → Contains (filter p xs) x → Contains xs x
    × (p x ≡ true)
Contains-from_filter p xs x h = (
  All-contains (Contains xs) (filter p xs) x (All-filter p (Contains xs) xs (All-contains_itself xs)) h,
  All-contains (λ y. p y ≡ true) (filter p xs) x (filter_passes p xs) h,
)

-- one call of an iterator over references
pub front_more : {X S : Type 0} (rest : S → List X) (s t : S) (r : Option (Bor X)) (x : Bor X) → r ≡ Some x
    → YieldsFirstRef rest s r t → rest s ≡ x.now ∷ rest t
front_more rest s t r x e h = let P : Option _ → Type 0 = λ o. YieldsFirstRef rest s o t in subst P e h

-- the call of an iterator over references that yields none: nothing was left
pub front_end : {X S : Type 0} (rest : S → List X) (s t : S) (r : Option (Bor X)) → r ≡ None → YieldsFirstRef rest s r t
    → rest s ≡ []
front_end rest s t r e h = let P : Option _ → Type 0 = λ o. YieldsFirstRef rest s o t in (subst P e h).0
