-- Ascending lists of numbers: which numbers they have, and that those with the same numbers are one; for all of sets of tokens.
use Rattle.std.proofs.Common.{◌≡◌, ℕ, zero, suc, ◌+◌, ◌<◌, ◌≤◌, Bool, true, false, not, cond, eqb, List, [], ◌∷◌, refl}
use Rattle.std.proofs.Common.{sym, ap, ◌∙◌, subst, arith, ◌⊎◌, inl, inr, ⊎_elim, IsTrue, IsFalse, Result, Ok, Err, IfErr, filter, nat_lt}
use Rattle.std.proofs.lemmas.Bool.{cases_lt}
use Rattle.std.specs.List.{range_with_len}
use Rattle.lalrpop_sets.specs.AscendingLists.{has, AscendsFrom}

pub eqb_self : (k : ℕ) → eqb k k ≡ true
eqb_self k = grind arith

pub eqb_not : (j k : ℕ) → (j ≡ k → ⊥) → eqb j k ≡ false
eqb_not j k h = grind arith

-- any two numbers are equal, or they are not
pub cases_eq : (j k : ℕ) → (j ≡ k) ⊎ (j ≡ k → ⊥)
cases_eq j k = go (cases_lt j k) (cases_lt k j)
  where
    go : (j < k) ⊎ (k ≤ j) → (k < j) ⊎ (j ≤ k) → (j ≡ k) ⊎ (j ≡ k → ⊥)
    go (inl a) b = inr (λ e. omega arith)
    go (inr a) (inl b) = inr (λ e. omega arith)
    go (inr a) (inr b) = inl (omega arith)

-- numbers picked from a range hold none that is below the range
pub has_below : (p : ℕ → Bool) (a n k : ℕ) → k < a → has (filter p (range_with_len a n)) k ≡ false
has_below p a zero k h = refl
has_below p a (suc n) k h = go (p a) (has_below p (a + 1) n k (omega arith))
  where
    go : (b : Bool) → has (filter p (range_with_len (a + 1) n)) k ≡ false
        → has (cond b (a ∷ filter p (range_with_len (a + 1) n)) (filter p (range_with_len (a + 1) n))) k ≡ false
    go true r = rw (eqb_not a k (λ e. omega arith)) r
    go false r = r

-- numbers picked from a range hold none that is past the range
pub has_above : (p : ℕ → Bool) (a n k : ℕ) → a + n ≤ k → has (filter p (range_with_len a n)) k ≡ false
has_above p a zero k h = refl
has_above p a (suc n) k h = go (p a) (has_above p (a + 1) n k (omega arith))
  where
    go : (b : Bool) → has (filter p (range_with_len (a + 1) n)) k ≡ false
        → has (cond b (a ∷ filter p (range_with_len (a + 1) n)) (filter p (range_with_len (a + 1) n))) k ≡ false
    go true r = rw (eqb_not a k (λ e. omega arith)) r
    go false r = r

-- of the numbers picked from a range by a test, a number of the range is one just where it passes the test
pub has_within : (p : ℕ → Bool) (a n k : ℕ) → a ≤ k → k < a + n → has (filter p (range_with_len a n)) k ≡ p k
has_within p a zero k h g = absurd (omega arith)
has_within p a (suc n) k h g = go (cases_eq a k) (λ e. has_within p (a + 1) n k (omega arith) (omega arith))
  where
    at : (b : Bool) → has (cond b (a ∷ filter p (range_with_len (a + 1) n)) (filter p (range_with_len (a + 1) n))) a ≡ b
    at true = rw (eqb_self a) refl
    at false = has_below p (a + 1) n a (omega arith)

    past : (b : Bool) → (a ≡ k → ⊥) → has (filter p (range_with_len (a + 1) n)) k ≡ p k
        → has (cond b (a ∷ filter p (range_with_len (a + 1) n)) (filter p (range_with_len (a + 1) n))) k ≡ p k
    past true e r = rw (eqb_not a k e) r
    past false e r = r

    go : (a ≡ k) ⊎ (a ≡ k → ⊥) → ((a ≡ k → ⊥) → has (filter p (range_with_len (a + 1) n)) k ≡ p k)
        → has (filter p (range_with_len a (suc n))) k ≡ p k
    go (inl e) r = subst (λ j. has (filter p (range_with_len a (suc n))) j ≡ p j) e (at (p a))
    go (inr e) r = past (p a) e (r e)

pub asc_more : (a b : ℕ) (xs : List ℕ) → b ≤ a → AscendsFrom a xs → AscendsFrom b xs
asc_more a b [] h k = tt
asc_more a b (x ∷ xs) h k = (let z : a ≤ x = k.0 in omega arith, k.1)

-- the numbers picked from a range ascend, from where the range begins
pub asc_filter : (p : ℕ → Bool) (a n : ℕ) → AscendsFrom a (filter p (range_with_len a n))
asc_filter p a zero = tt
asc_filter p a (suc n) = go (p a) (subst
    (λ b. AscendsFrom b (filter p (range_with_len (a + 1) n))) (omega arith) (asc_filter p (a + 1) n))
  where
    go : (b : Bool) → AscendsFrom (suc a) (filter p (range_with_len (a + 1) n))
        → AscendsFrom a (cond b (a ∷ filter p (range_with_len (a + 1) n)) (filter p (range_with_len (a + 1) n)))
    go true r = (omega arith, r)
    go false r = asc_more (suc a) a (filter p (range_with_len (a + 1) n)) (omega arith) r

asc_below : (a k : ℕ) (xs : List ℕ) → AscendsFrom a xs → k < a → has xs k ≡ false
asc_below a k [] h l = refl
asc_below a k (x ∷ xs) h l = let z : a ≤ x = h.0 in rw (eqb_not x k (λ e. omega arith)) (asc_below (suc x) k xs h.1 (omega arith))

has_head : (x : ℕ) (xs : List ℕ) → has (x ∷ xs) x ≡ true
has_head x xs = rw (eqb_self x) refl

has_tail : (x k : ℕ) (xs : List ℕ) → (x ≡ k → ⊥) → has (x ∷ xs) k ≡ has xs k
has_tail x k xs e = rw (eqb_not x k e) refl

-- ascending lists with the same numbers are one
pub asc_same : (a b : ℕ) (xs ys : List ℕ) → AscendsFrom a xs → AscendsFrom b ys → ((k : ℕ) → has xs k ≡ has ys k)
    → xs ≡ ys
asc_same a b [] [] h g e = refl
asc_same a b [] (y ∷ ys) h g e = let z : false ≡ true = e y ∙ has_head y ys in let w : ⊥ = cc in absurd w
asc_same a b (x ∷ xs) [] h g e = let z : false ≡ true = sym (e x) ∙ has_head x xs in let w : ⊥ = cc in absurd w
asc_same a b (x ∷ xs) (y ∷ ys) h g e =
    let q = same in
    subst (λ z. x ∷ xs ≡ z ∷ ys) q (ap (λ l. x ∷ l) (asc_same (suc x) (suc y) xs ys h.1 g.1 tails))
  where
    less : (x < y) → ⊥
    less l = let z : false ≡ true = sym (has_tail y x ys (λ i. omega arith) ∙ asc_below (suc y) x ys g.1 (omega arith)) ∙ sym (e x)
        ∙ has_head x xs in cc

    more : (y < x) → ⊥
    more l = let z : false ≡ true = sym (has_tail x y xs (λ i. omega arith) ∙ asc_below (suc x) y xs h.1 (omega arith)) ∙ e y
        ∙ has_head y ys in cc

    same : x ≡ y
    same = ⊎_elim (λ l. absurd (less l)) (λ l. ⊎_elim (λ m. absurd (more m)) (λ m. let t : x ≤ y = m
        in omega arith) (cases_lt y x)) (cases_lt x y)

    tails : (k : ℕ) → has xs k ≡ has ys k
    tails k = ⊎_elim
        (λ i. subst (λ j. has xs j ≡ has ys j) i (asc_below (suc x) x xs h.1 (omega arith)
        ∙ sym (asc_below (suc y) x ys g.1 (let t = same in omega arith))))
        (λ i. sym (has_tail x k xs i) ∙ e k ∙ has_tail y k ys (λ j. i (same ∙ j)))
        (cases_eq x k)

-- what holds of every error holds of the error that a result may have
pub if_err : {A E : Type 0} (r : Result A E) (P : E → Type 0) → ((e : E) → P e) → IfErr r P
if_err (Ok x) P h = tt
if_err (Err e) P h = h e

-- a truth value whose negation is true is false
pub not_true : (b : Bool) → IsTrue (not b) → IsFalse b
not_true true h = let z : ⊥ = cc in absurd z
not_true false h = refl

-- a truth value whose negation is false is true
pub not_false : (b : Bool) → IsFalse (not b) → IsTrue b
not_false true h = refl
not_false false h = let z : ⊥ = cc in absurd z

-- a whole range, as a set
filter_all : (xs : List ℕ) → filter (λ _. true) xs ≡ xs
filter_all [] = refl
filter_all (x ∷ xs) = ap (λ l. x ∷ l) (filter_all xs)

-- the numbers of a range ascend, from where it begins
pub asc_range : (a n : ℕ) → AscendsFrom a (range_with_len a n)
asc_range a n = subst (AscendsFrom a) (filter_all (range_with_len a n)) (asc_filter (λ _. true) a n)

-- a range from 0 holds just the numbers below its length
pub has_range : (n k : ℕ) → has (range_with_len 0 n) k ≡ nat_lt k n
has_range n k = subst (λ l. has l k ≡ nat_lt k n) (filter_all (range_with_len 0 n)) (go (cases_lt k n))
  where
    yes : k < n → nat_lt k n ≡ true
    yes h = grind arith

    no : n ≤ k → nat_lt k n ≡ false
    no h = grind arith

    go : (k < n) ⊎ (n ≤ k) → has (filter (λ _. true) (range_with_len 0 n)) k ≡ nat_lt k n
    go (inl h) = has_within (λ _. true) 0 n k (omega arith) (omega arith) ∙ sym (yes h)
    go (inr h) = has_above (λ _. true) 0 n k (omega arith) ∙ sym (no h)

-- whether two numbers are equal does not depend on which comes first
pub eqb_flip : (j k : ℕ) → eqb j k ≡ eqb k j
eqb_flip j k = go (cases_eq j k)
  where
    go : (j ≡ k) ⊎ (j ≡ k → ⊥) → eqb j k ≡ eqb k j
    go (inl e) = grind arith
    go (inr e) = eqb_not j k e ∙ sym (eqb_not k j (λ h. e (sym h)))
