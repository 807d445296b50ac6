-- Lists of sets with one set exchanged, tests of two parts, and reading at a place: for all proofs of this crate.
use Rattle.std.proofs.Common.{◌≡◌, ◌∙◌, ℕ, zero, suc, ◌<◌, Bool, true, false, ◌||◌}
use Rattle.std.proofs.Common.{◌&&◌, eqb, List, [], ◌∷◌}
use Rattle.std.proofs.Common.{length, get_or, set, refl, sym, ap, arith, ◌⊎◌, inl, inr, slice_get, Some}
use Rattle.lalrpop_lr1_first.specs.Numbers.{set_of_number}

-- numbers that test as equal are one
pub eqb_true : (j k : ℕ) → eqb j k ≡ true → j ≡ k
eqb_true j k h = grind arith

-- where an `||` is true, one of its sides is
pub or_cases : (a b : Bool) → (a || b) ≡ true → (a ≡ true) ⊎ (b ≡ true)
or_cases true b h = inl refl
or_cases false b h = inr h

-- where both sides are true, their `&&` is
pub both_and : (a b : Bool) → a ≡ true → b ≡ true → (a && b) ≡ true
both_and true b h g = g
both_and false b h g = let z : ⊥ = cc in absurd z

-- an `||` whose left side is true is true
pub or_left : (a b : Bool) → a ≡ true → (a || b) ≡ true
or_left true b h = refl
or_left false b h = let z : ⊥ = cc in absurd z

-- an `||` whose right side is true is true
pub or_right : (a b : Bool) → b ≡ true → (a || b) ≡ true
or_right true b h = refl
or_right false b h = h

-- where a set is put at a place within the list, it's read there
pub at_set_same : (sets : List (List ℕ)) (a : ℕ) (t : List ℕ) → a < length sets → set_of_number (set sets a t) a ≡ t
at_set_same [] a t h = absurd (omega arith)
at_set_same (s ∷ sets) zero t h = refl
at_set_same (s ∷ sets) (suc a) t h = at_set_same sets a t (omega arith)

-- a set put at one place leaves the set at each other place as it was
pub at_set_other : (sets : List (List ℕ)) (a b : ℕ) (t : List ℕ) →
    (a ≡ b → ⊥) → set_of_number (set sets a t) b ≡ set_of_number sets b
at_set_other [] a b t h = refl
at_set_other (s ∷ sets) zero zero t h = absurd (h refl)
at_set_other (s ∷ sets) zero (suc b) t h = refl
at_set_other (s ∷ sets) (suc a) zero t h = refl
at_set_other (s ∷ sets) (suc a) (suc b) t h = at_set_other sets a b t (λ e. h (ap suc e))

-- putting a place's own set there changes nothing
pub set_itself : (sets : List (List ℕ)) (a : ℕ) → set sets a (set_of_number sets a) ≡ sets
set_itself [] a = refl
set_itself (s ∷ sets) zero = refl
set_itself (s ∷ sets) (suc a) = ap (λ l. s ∷ l) (set_itself sets a)

-- a list with one element exchanged is as long as before
pub set_long : {X : Type 0} (xs : List X) (a : ℕ) (v : X) → length (set xs a v) ≡ length xs
set_long [] a v = refl
set_long (x ∷ xs) zero v = refl
set_long (x ∷ xs) (suc a) v = ap suc (set_long xs a v)

-- within a list, what is read doesn't depend on the default
pub get_any : {X : Type 0} (xs : List X) (i : ℕ) (d e : X) → i < length xs → get_or xs i d ≡ get_or xs i e
get_any [] i d e h = absurd (omega arith)
get_any (x ∷ xs) zero d e h = refl
get_any (x ∷ xs) (suc i) d e h = get_any xs i d e (omega arith)

-- what is read within a list is read there with itself as the default, too
pub read_default : {X : Type 0} (xs : List X) (i : ℕ) (d x : X) → i < length xs → get_or xs i d ≡ x → x ≡ get_or xs i x
read_default xs i d x h e = sym e ∙ get_any xs i d x h

-- what is read within a list of sets is the set with that number
pub at_read_set : (sets : List (List ℕ)) (a : ℕ) (s : List ℕ) → a < length sets → s ≡ get_or sets a s →
    s ≡ set_of_number sets a
at_read_set sets a s h e = e ∙ get_any sets a s [] h

-- what is read at a place within a list with a default stands at that place
pub get_slice : {X : Type 0} (xs : List X) (i : ℕ) (x : X) → i < length xs → x ≡ get_or xs i x → slice_get xs i ≡ Some x
get_slice [] i x h e = absurd (omega arith)
get_slice (y ∷ xs) zero x h e = ap Some (sym e)
get_slice (y ∷ xs) (suc i) x h e = get_slice xs i x (omega arith) e

-- an element that is read by a default stands in an equal list
pub read_slice : {X : Type 0} (xs ys : List X) (i : ℕ) (d : X) → i < length xs → xs ≡ ys →
    slice_get ys i ≡ Some (get_or xs i d)
read_slice xs ys i d h e = ap (λ l. slice_get l i) (sym e) ∙ get_slice xs i (get_or xs i d) h (get_any xs i d (get_or xs i d) h)
