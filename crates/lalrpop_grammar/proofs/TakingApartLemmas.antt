-- Trees taken apart by a loop: each turn leaves fewer nodes, or no more and fewer at hand. For drops of trees, in other crates too.
use Rattle.std.proofs.Common.{◌≡◌, ℕ, zero, suc, Bool, true, false, ◌==◌, ◌+◌, ◌*◌, ◌<◌, ◌≤◌}
use Rattle.std.proofs.Common.{List, [], ◌∷◌, ◌++◌, sym, ap, ◌∙◌, refl, arith, slice_set, get_or, length, Vec}
use Rattle.std.proofs.Common.{vec_len, Global}
use Rattle.std.proofs.Math.Nat.{mul-le-mul_right}

-- what all of the list count for
abbrev pub total : {X : Type 0} → (X → ℕ) → List X → ℕ
total f [] = 0
total f (x ∷ xs) = f x + total f xs

-- fewer nodes are left
pub fewer_are_less : (most all all' hand hand' : ℕ) → all' < all → hand' ≤ all' → all' ≤ most
    → all' * suc most + hand' < all * suc most + hand
fewer_are_less most all all' hand hand' less within most_are =
    let step = mul-le-mul_right (suc most) less in
    omega (arith, step, within, most_are)

-- no more are left, and fewer at hand
pub smaller_is_less : (most all all' hand hand' : ℕ) → all' ≤ all → hand' < hand → all' * suc most + hand' < all * suc most + hand
smaller_is_less most all all' hand hand' no_more less =
    let step = mul-le-mul_right (suc most) no_more in
    omega (arith, step, less)

-- what isn't empty has a first element
not_empty : (n : ℕ) → false ≡ (n == 0) → 0 < n
not_empty zero is = let both : false ≡ true = is in let no : ⊥ = cc in absurd no
not_empty (suc n) is = omega arith

-- a list that was seen not to be empty has a first element
pub has_first : {X : Type 0} (v : Vec X Global) (empty : Bool) → empty ≡ (vec_len v == 0) → empty ≡ false → 0 < length v.items
has_first v empty is isnt = let some = not_empty v.len (sym isnt ∙ is) in omega (arith, some, v.ok.0)

-- another element in the place of the first
pub total-set : {X : Type 0} (f : X → ℕ) (xs : List X) (x y : X) → 0 < length xs → x ≡ get_or xs 0 x
    → f x + total f (slice_set xs 0 y) ≡ f y + total f xs
total-set f [] x y some is = absurd (omega arith)
total-set f (z ∷ xs) x y some is = let same = ap f is in omega (arith, same)

-- the first is one of all
pub first-within : {X : Type 0} (f : X → ℕ) (xs : List X) (x : X) → 0 < length xs → x ≡ get_or xs 0 x → f x ≤ total f xs
first-within f [] x some is = absurd (omega arith)
first-within f (z ∷ xs) x some is = let same = ap f is in omega (arith, same)

-- the last beside the others
total-append : {X : Type 0} (f : X → ℕ) (ys : List X) (x : X) → total f (ys ++ x ∷ []) ≡ f x + total f ys
total-append f [] x = refl
total-append f (y ∷ ys) x = omega (arith, total-append f ys x)

-- a sum over a list is that over its front and its last element, in either order
pub total-last : {X : Type 0} (f : X → ℕ) (xs ys : List X) (x : X) → xs ≡ ys ++ x ∷ [] → total f xs ≡ f x + total f ys
total-last f xs ys x is = ap (total f) is ∙ total-append f ys x
