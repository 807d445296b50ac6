-- Ranges with one number more or less: what they have then, that they ascend, and the room they need; for ranges.
use Rattle.std.proofs.Common.{◌≡◌, ℕ, zero, suc, ◌+◌, ◌-◌, ◌/◌, ◌<◌, ◌≤◌, Bool, true, false, cond, not, ◌||◌, ◌&&◌, List, [], ◌∷◌, ◌++◌}
use Rattle.std.proofs.Common.{eqb, nat_le, nat_lt, length, get_or, take, drop, refl, sym, ap, ◌∙◌, subst, arith, ◌⊎◌, inl, inr}
use Rattle.std.proofs.lemmas.Bool.{cases_lt}
use Rattle.std.proofs.lemmas.Bool.Decides.{nat_tests}
use Rattle.std.proofs.lemmas.List.{take-append-drop}
use Rattle.std.specs.List.Sorted.{IsNonDecreasingBy}
use Rattle.lalrpop_sets.specs.Ranges.{RangesFrom, covers, is_covered, left_behind, most_ranges, range_of}
use Rattle.lalrpop_sets.specs.RangeEdits.{IsInFirst, begins_apart, begins_behind, begins_by, joined_up_to, with_new_number, without_number}
use Rattle.lalrpop_sets.specs.declared.token_range.TokenRange.{TokenRange}
use Rattle.lalrpop_sets.proofs.RangeLemmas.{covers_above, covers_one, covers_parts, covers_within, is_behind, lacks_below, or_assoc, neither, or_swap, ranges_weaken}
use Rattle.lalrpop_sets.proofs.AscendingListLemmas.{cases_eq, eqb_not, eqb_self}

pub covered_append : (xs ys : List TokenRange) (k : ℕ) → is_covered (xs ++ ys) k ≡ (is_covered xs k || is_covered ys k)
covered_append [] ys k = refl
covered_append (x ∷ xs) ys k = ap (λ b. covers x k || b) (covered_append xs ys k)
    ∙ sym (or_assoc (covers x k) (is_covered xs k) (is_covered ys k))

pub most_append : (xs ys : List TokenRange) → most_ranges (xs ++ ys) ≡ most_ranges xs + most_ranges ys
most_append [] ys = omega arith
most_append (x ∷ xs) ys = omega (arith, most_append xs ys)

-- a list as what stands before a place and what stands behind it
covered_at : (p : ℕ) (rs : List TokenRange) (k : ℕ) → is_covered rs k ≡ (is_covered (take p rs) k || is_covered (drop p rs) k)
covered_at p rs k = ap (λ l. is_covered l k) (sym (take-append-drop p rs)) ∙ covered_append (take p rs) (drop p rs) k

most_at : (p : ℕ) (rs : List TokenRange) → most_ranges rs ≡ most_ranges (take p rs) + most_ranges (drop p rs)
most_at p rs = ap most_ranges (sym (take-append-drop p rs)) ∙ most_append (take p rs) (drop p rs)

-- lasts ascend with ranges
lasts_from : (gap a : ℕ) (rs : List TokenRange) (j : ℕ) (d : TokenRange) → RangesFrom gap a rs → j < length rs → a ≤ (get_or rs j d).last
lasts_from gap a [] j d h l = absurd (omega arith)
lasts_from gap a (r ∷ rs) zero d h l = let x : a ≤ r.first = h.0 in let y : r.first ≤ r.last = h.1 in omega arith
lasts_from gap a (r ∷ rs) (suc j) d h l =
    let x : a ≤ r.first = h.0 in
    let y : r.first ≤ r.last = h.1 in
    let z : r.last + gap ≤ (get_or rs j d).last = lasts_from gap (r.last + gap) rs j d h.2 (omega arith) in
    omega arith

pub lasts_ascend : (gap a : ℕ) (rs : List TokenRange) → RangesFrom gap a rs → IsNonDecreasingBy (λ r. r.last) rs
lasts_ascend gap a [] h i j d le l = absurd (omega arith)
lasts_ascend gap a (r ∷ rs) h zero zero d le l = omega arith
lasts_ascend gap a (r ∷ rs) h zero (suc j) d le l =
    let z : r.last + gap ≤ (get_or rs j d).last = lasts_from gap (r.last + gap) rs j d h.2 (omega arith) in omega arith
lasts_ascend gap a (r ∷ rs) h (suc i) zero d le l = absurd (omega arith)
lasts_ascend gap a (r ∷ rs) h (suc i) (suc j) d le l = lasts_ascend gap (r.last + gap) rs h.2 i j d (omega arith) (omega arith)

-- before the first range whose last isn't below n, nothing is from n on
abbrev pub AreBelow : ℕ → ℕ → List TokenRange → Type 0
AreBelow n p rs = (i : ℕ) (d : TokenRange) → 0 ≤ i → i < p → (get_or rs i d).last < n

front_lacks : (n p : ℕ) (rs : List TokenRange) (k : ℕ) → AreBelow n p rs → p ≤ length rs → n ≤ k → is_covered (take p rs) k ≡ false
front_lacks n zero rs k b l h = refl
front_lacks n (suc p) [] k b l h = refl
front_lacks n (suc p) (r ∷ rs) k b l h =
    let x : r.last < n = b 0 r (omega arith) (omega arith) in
    ap (λ c. c || is_covered (take p rs) k) (covers_above r k (omega arith))
    ∙ front_lacks n p rs k (λ i d z g. b (suc i) d (omega arith) (omega arith)) (omega arith) h

-- a change behind a place leaves the ranges in order, where what is before the place ends early enough
pub order_kept : (m a p : ℕ) (rs new : List TokenRange) → RangesFrom 2 a rs → a ≤ m
    → ((i : ℕ) (d : TokenRange) → 0 ≤ i → i < p → (get_or rs i d).last + 2 ≤ m) → p ≤ length rs
    → ((b : ℕ) → b ≤ m → RangesFrom 2 b (drop p rs) → RangesFrom 2 b new) → RangesFrom 2 a (take p rs ++ new)
order_kept m a zero rs new h l b s f = f a l h
order_kept m a (suc p) [] new h l b s f = absurd (omega arith)
order_kept m a (suc p) (r ∷ rs) new h l b s f = (
  h.0,
  h.1,
  order_kept m (r.last + 2) p rs new h.2 (b 0 r (omega arith) (omega arith))
      (λ i d z g. b (suc i) d (omega arith) (omega arith)) (omega arith) f,
)

pub drop_ranges : (a p : ℕ) (rs : List TokenRange) → RangesFrom 2 a rs → RangesFrom 2 a (drop p rs)
drop_ranges a zero rs h = h
drop_ranges a (suc p) [] h = tt
drop_ranges a (suc p) (r ∷ rs) h =
    let x : a ≤ r.first = h.0 in
    let y : r.first ≤ r.last = h.1 in
    ranges_weaken 2 (r.last + 2) a (drop p rs) (omega arith) (drop_ranges (r.last + 2) p rs h.2)

-- what is left of a range behind a number of it
pub left_covered : (k : ℕ) (r : TokenRange) (rs : List TokenRange) (j : ℕ) → r.first ≤ k → k ≤ r.last
    → is_covered (r ∷ rs) j ≡ (covers (range_of r.first k) j || is_covered (left_behind k r rs) j)
left_covered k r rs j f l = go (nat_lt k r.last) refl
  where
    go : (b : Bool) → nat_lt k r.last ≡ b
        → (covers r j || is_covered rs j) ≡ (covers (range_of r.first k) j || is_covered (cond b (range_of (k + 1) r.last ∷ rs) rs) j)
    go true e =
        ap (λ b. b || is_covered rs j) (covers_parts r.first k r.last j (omega arith) l)
        ∙ or_assoc (covers (range_of r.first k) j) (covers (range_of (k + 1) r.last) j) (is_covered rs j)
    go false e = let z : r.last ≡ k = grind (arith, nat_tests) in ap (λ n. covers (range_of r.first n) j || is_covered rs j) z

pub left_ranges : (gap k : ℕ) (r : TokenRange) (rs : List TokenRange) → 1 ≤ gap → k ≤ r.last → RangesFrom gap (r.last + gap) rs
    → RangesFrom gap (k + 1) (left_behind k r rs)
left_ranges gap k r rs g l h = go (nat_lt k r.last) refl
  where
    go : (b : Bool) → nat_lt k r.last ≡ b → RangesFrom gap (k + 1) (cond b (range_of (k + 1) r.last ∷ rs) rs)
    go true e = let z : k < r.last = grind (arith, nat_tests) in (omega arith, omega arith, h)
    go false e = ranges_weaken gap (r.last + gap) (k + 1) rs (omega arith) h

and_not : (k j : ℕ) (a l : Bool) → (j ≡ k → (a || l) ≡ false) → (not (eqb j k) && (a || (eqb j k || l))) ≡ (a || l)
and_not k j a l h = go (cases_eq j k)
  where
    go : (j ≡ k) ⊎ (j ≡ k → ⊥) → (not (eqb j k) && (a || (eqb j k || l))) ≡ (a || l)
    go (inl e) = ap (λ b. not b && (a || (b || l))) (ap (λ x. eqb x k) e ∙ eqb_self k) ∙ sym (h e)
    go (inr e) = ap (λ b. not b && (a || (b || l))) (eqb_not j k e)

-- without a number that the first range has
without_covered : (k b : ℕ) (r : TokenRange) (rs : List TokenRange) (j : ℕ) → RangesFrom 2 b (r ∷ rs) → r.first ≤ k → k ≤ r.last
    → is_covered (without_number k (r ∷ rs)) j ≡ (not (eqb j k) && is_covered (r ∷ rs) j)
without_covered k b r rs j h f l = go (nat_lt r.first k) refl
  where
    left : List TokenRange
    left = left_behind k r rs

    left_lacks : j ≡ k → is_covered left j ≡ false
    left_lacks e = lacks_below 2 (k + 1) left j (left_ranges 2 k r rs (omega arith) l h.2) (omega arith)

    go : (x : Bool) → nat_lt r.first k ≡ x
        → is_covered (cond x (range_of r.first (k - 1) ∷ left) left) j ≡ (not (eqb j k) && is_covered (r ∷ rs) j)
    go true e =
        let z : r.first < k = grind (arith, nat_tests) in
        let q : k - 1 + 1 ≡ k = omega arith in
        let front = range_of r.first (k - 1) in
        let parts : covers (range_of r.first k) j ≡ (covers front j || eqb j k) =
        covers_parts r.first (k - 1) k j (omega arith) (omega arith)
        ∙ ap (λ n. covers front j || covers (range_of n k) j) q ∙ ap (λ c. covers front j || c) (covers_one k j) in
        sym (ap (λ c. not (eqb j k) && c) (left_covered k r rs j f l ∙ ap (λ c. c || is_covered left j) parts
        ∙ or_assoc (covers front j) (eqb j k) (is_covered left j))
        ∙ and_not k j (covers front j) (is_covered left j)
        (λ s. ap (λ c. c || is_covered left j) (covers_above front j (omega arith)) ∙ left_lacks s))
    go false e =
        let z : r.first ≡ k = grind (arith, nat_tests) in
        sym (ap (λ c. not (eqb j k) && c) (left_covered k r rs j f l
        ∙ ap (λ n. covers (range_of n k) j || is_covered left j) z ∙ ap (λ c. c || is_covered left j) (covers_one k j))
        ∙ and_not k j false (is_covered left j) left_lacks)

without_order : (k b : ℕ) (r : TokenRange) (rs : List TokenRange) → RangesFrom 2 b (r ∷ rs) → r.first ≤ k → k ≤ r.last
    → RangesFrom 2 b (without_number k (r ∷ rs))
without_order k b r rs h f l = go (nat_lt r.first k) refl
  where
    left : RangesFrom 2 (k + 1) (left_behind k r rs)
    left = left_ranges 2 k r rs (omega arith) l h.2

    go : (x : Bool) → nat_lt r.first k ≡ x
        → RangesFrom 2 b (cond x (range_of r.first (k - 1) ∷ left_behind k r rs) (left_behind k r rs))
    go true e =
        let z : r.first < k = grind (arith, nat_tests) in
        (h.0, omega arith, subst (λ n. RangesFrom 2 n (left_behind k r rs)) (omega arith) left)
    go false e =
        let x : b ≤ r.first = h.0 in
        ranges_weaken 2 (k + 1) b (left_behind k r rs) (omega arith) left

without_room : (k : ℕ) (r : TokenRange) (rs : List TokenRange) → r.first ≤ k → k ≤ r.last
    → most_ranges (without_number k (r ∷ rs)) ≤ most_ranges (r ∷ rs)
without_room k r rs f l = go (nat_lt r.first k) (nat_lt k r.last) refl refl
  where
    go : (x y : Bool) → nat_lt r.first k ≡ x → nat_lt k r.last ≡ y
        → most_ranges (cond x (range_of r.first (k - 1) ∷ cond y (range_of (k + 1) r.last ∷ rs) rs) (cond y (range_of (k + 1) r.last ∷ rs) rs))
        ≤ (r.last - r.first) / 2 + 1 + most_ranges rs
    go true true e g =
        let z : r.first < k = grind (arith, nat_tests) in let w : k < r.last = grind (arith, nat_tests) in omega arith
    go true false e g = let z : r.first < k = grind (arith, nat_tests) in omega arith
    go false true e g = let w : k < r.last = grind (arith, nat_tests) in omega arith
    go false false e g = omega arith

-- what becomes of all of the ranges, where a number is taken out behind a place
pub record IsWithout (k : ℕ) (old new : List TokenRange) : Type 0 where
  pub gone : (j : ℕ) → is_covered new j ≡ (not (eqb j k) && is_covered old j)
  pub apart : RangesFrom 2 0 new
  pub room : most_ranges new ≤ most_ranges old

pub taken_out : (k p : ℕ) (rs : List TokenRange) → RangesFrom 2 0 rs → p ≤ length rs → AreBelow k p rs → IsInFirst k (drop p rs)
    → IsWithout k rs (take p rs ++ without_number k (drop p rs))
taken_out k p rs h s b at = go (drop p rs) at refl
  where
    spread : (j : ℕ) (x y z : Bool) → x ≡ false ⊎ (j ≡ k → ⊥) → y ≡ (not (eqb j k) && z) → (x || y) ≡ (not (eqb j k) && (x || z))
    spread j x y z (inl e) g = rw e g
    spread j x y z (inr e) g = rw (eqb_not j k e) (let t : y ≡ z = g ∙ ap (λ c. not c && z) (eqb_not j k e) in ap (λ c. x || c) t)

    apart_from : (j : ℕ) → is_covered (take p rs) j ≡ false ⊎ (j ≡ k → ⊥)
    apart_from j = side (cases_eq j k)
      where
        side : (j ≡ k) ⊎ (j ≡ k → ⊥) → is_covered (take p rs) j ≡ false ⊎ (j ≡ k → ⊥)
        side (inl e) = inl (front_lacks k p rs j b s (omega arith))
        side (inr e) = inr e

    go : (zs : List TokenRange) → IsInFirst k zs → drop p rs ≡ zs → IsWithout k rs (take p rs ++ without_number k zs)
    go [] at e = absurd at
    go (z ∷ zs) at e = record {
      gone = λ j. covered_append (take p rs) (without_number k (z ∷ zs)) j
          ∙ spread j (is_covered (take p rs) j) (is_covered (without_number k (z ∷ zs)) j) (is_covered (z ∷ zs) j) (apart_from j)
          (without_covered k 0 z zs j (subst (RangesFrom 2 0) e (drop_ranges 0 p rs h)) at.0 at.1)
          ∙ ap (λ c. not (eqb j k) && c) (ap (λ l. is_covered (take p rs) j || is_covered l j) (sym e) ∙ sym (covered_at p rs j));
      apart = order_kept (k + 1) 0 p rs (without_number k (z ∷ zs)) h (omega arith)
          (λ i d x y. let w : (get_or rs i d).last < k = b i d x y in omega arith) s
          (λ c m g. without_order k c z zs (subst (RangesFrom 2 c) e g) at.0 at.1);
      room =
          let a = most_append (take p rs) (without_number k (z ∷ zs)) in
          let c = most_at p rs ∙ ap (λ l. most_ranges (take p rs) + most_ranges l) e in
          let d = without_room k z zs at.0 at.1 in
          omega (arith, a, c, d);
    }

-- with a number that they lack
joined_covered : (f k : ℕ) (rs : List TokenRange) (j : ℕ) → f ≤ k → RangesFrom 2 (k + 1) rs
    → is_covered (joined_up_to f k rs) j ≡ (covers (range_of f k) j || is_covered rs j)
joined_covered f k [] j l h = refl
joined_covered f k (r ∷ rs) j l h = go (eqb r.first (k + 1)) refl
  where
    go : (x : Bool) → eqb r.first (k + 1) ≡ x
        → is_covered (cond x (range_of f r.last ∷ rs) (range_of f k ∷ r ∷ rs)) j ≡ (covers (range_of f k) j || (covers r j || is_covered rs j))
    go true e =
        let q : r.first ≡ k + 1 = grind (arith, nat_tests) in
        let y : r.first ≤ r.last = h.1 in
        ap (λ c. c || is_covered rs j) (covers_parts f k r.last j (omega arith) (omega arith)
        ∙ ap (λ n. covers (range_of f k) j || covers (range_of n r.last) j) (sym q))
        ∙ or_assoc (covers (range_of f k) j) (covers r j) (is_covered rs j)
    go false e = refl

joined_order : (b f k : ℕ) (rs : List TokenRange) → b ≤ f → f ≤ k → RangesFrom 2 (k + 1) rs → RangesFrom 2 b (joined_up_to f k rs)
joined_order b f k [] l g h = (l, g, tt)
joined_order b f k (r ∷ rs) l g h = go (eqb r.first (k + 1)) refl
  where
    go : (x : Bool) → eqb r.first (k + 1) ≡ x → RangesFrom 2 b (cond x (range_of f r.last ∷ rs) (range_of f k ∷ r ∷ rs))
    go true e = let y : r.first ≤ r.last = h.1 in let z : k + 1 ≤ r.first = h.0 in (l, omega arith, h.2)
    go false e =
        let z : k + 1 ≤ r.first = h.0 in
        let w : k + 2 ≤ r.first = grind (arith, nat_tests) in
        (l, g, (w, h.1, h.2))

joined_room : (f k : ℕ) (rs : List TokenRange) → f ≤ k → RangesFrom 2 (k + 1) rs
    → most_ranges (joined_up_to f k rs) ≤ (k - 1 - f) / 2 + 1 + most_ranges rs + 1
joined_room f k [] l h = omega arith
joined_room f k (r ∷ rs) l h = go (eqb r.first (k + 1)) refl
  where
    go : (x : Bool) → eqb r.first (k + 1) ≡ x
        → most_ranges (cond x (range_of f r.last ∷ rs) (range_of f k ∷ r ∷ rs))
        ≤ (k - 1 - f) / 2 + 1 + ((r.last - r.first) / 2 + 1 + most_ranges rs) + 1
    go true e =
        let q : r.first ≡ k + 1 = grind (arith, nat_tests) in
        let y : r.first ≤ r.last = h.1 in
        omega arith
    go false e = omega arith

-- what becomes of all of the ranges, where a number is put in behind a place
pub record IsWith (k : ℕ) (old new : List TokenRange) : Type 0 where
  pub put : (j : ℕ) → is_covered new j ≡ (eqb j k || is_covered old j)
  pub apart : RangesFrom 2 0 new
  pub room : most_ranges new ≤ most_ranges old + 1

-- that the first range doesn't end before the number's neighbour
abbrev pub EndsFrom : ℕ → List TokenRange → Type 0
EndsFrom k [] = Unit {0}
EndsFrom k (r ∷ rs) = k ≤ r.last + 1

with_covered : (k b : ℕ) (rs : List TokenRange) (j : ℕ) → RangesFrom 2 b rs → is_covered rs k ≡ false → EndsFrom k rs
    → is_covered (with_new_number k rs) j ≡ (eqb j k || is_covered rs j)
with_covered k b [] j h n g = ap (λ c. c || false) (covers_one k j)
with_covered k b (r ∷ rs) j h n g = go (nat_lt (k + 1) r.first) (nat_lt k r.first) refl refl
  where
    go : (x y : Bool) → nat_lt (k + 1) r.first ≡ x → nat_lt k r.first ≡ y
        → is_covered (cond x (range_of k k ∷ r ∷ rs) (cond y (range_of k r.last ∷ rs) (joined_up_to r.first k rs))) j
        ≡ (eqb j k || (covers r j || is_covered rs j))
    go true y e i = ap (λ c. c || (covers r j || is_covered rs j)) (covers_one k j)
    go false true e i =
        let q : r.first ≡ k + 1 = grind (arith, nat_tests) in
        let o : r.first ≤ r.last = h.1 in
        ap (λ c. c || is_covered rs j) (covers_parts k k r.last j (omega arith) (omega arith)
        ∙ ap (λ m. covers (range_of k k) j || covers (range_of m r.last) j) (sym q)
        ∙ ap (λ c. c || covers r j) (covers_one k j)) ∙ or_assoc (eqb j k) (covers r j) (is_covered rs j)
    go false false e i =
        let f : r.first ≤ k = grind (arith, nat_tests) in
        let l : r.last < k = is_behind r k f (neither (covers r k) (is_covered rs k) n).0 in
        let q : k ≡ r.last + 1 = omega arith in
        joined_covered r.first k rs j f (subst (λ m. RangesFrom 2 m rs) (omega arith) h.2)
        ∙ ap (λ c. c || is_covered rs j) (ap (λ m. covers (range_of r.first m) j) q
        ∙ covers_parts r.first r.last (r.last + 1) j (let o : r.first ≤ r.last = h.1 in omega arith) (omega arith)
        ∙ ap (λ m. covers r j || covers (range_of m m) j) (sym q) ∙ ap (λ c. covers r j || c) (covers_one k j))
        ∙ or_assoc (covers r j) (eqb j k) (is_covered rs j) ∙ or_swap (covers r j) (eqb j k) (is_covered rs j)

with_order : (k b : ℕ) (rs : List TokenRange) → b ≤ k → RangesFrom 2 b rs → is_covered rs k ≡ false → EndsFrom k rs
    → RangesFrom 2 b (with_new_number k rs)
with_order k b [] l h n g = (l, omega arith, tt)
with_order k b (r ∷ rs) l h n g = go (nat_lt (k + 1) r.first) (nat_lt k r.first) refl refl
  where
    go : (x y : Bool) → nat_lt (k + 1) r.first ≡ x → nat_lt k r.first ≡ y
        → RangesFrom 2 b (cond x (range_of k k ∷ r ∷ rs) (cond y (range_of k r.last ∷ rs) (joined_up_to r.first k rs)))
    go true y e i = (l, omega arith, ((let z : k + 1 < r.first = grind (arith, nat_tests) in omega arith), h.1, h.2))
    go false true e i =
        let z : k < r.first = grind (arith, nat_tests) in
        let o : r.first ≤ r.last = h.1 in
        (l, omega arith, h.2)
    go false false e i =
        let f : r.first ≤ k = grind (arith, nat_tests) in
        let m : r.last < k = is_behind r k f (neither (covers r k) (is_covered rs k) n).0 in
        joined_order b r.first k rs h.0 f (subst (λ x. RangesFrom 2 x rs) (omega arith) h.2)

with_room : (k b : ℕ) (rs : List TokenRange) → RangesFrom 2 b rs → is_covered rs k ≡ false → EndsFrom k rs
    → most_ranges (with_new_number k rs) ≤ most_ranges rs + 1
with_room k b [] h n g = omega arith
with_room k b (r ∷ rs) h n g = go (nat_lt (k + 1) r.first) (nat_lt k r.first) refl refl
  where
    go : (x y : Bool) → nat_lt (k + 1) r.first ≡ x → nat_lt k r.first ≡ y
        → most_ranges (cond x (range_of k k ∷ r ∷ rs) (cond y (range_of k r.last ∷ rs) (joined_up_to r.first k rs)))
        ≤ (r.last - r.first) / 2 + 1 + most_ranges rs + 1
    go true y e i = omega arith
    go false true e i =
        let q : r.first ≡ k + 1 = grind (arith, nat_tests) in
        let o : r.first ≤ r.last = h.1 in
        omega arith
    go false false e i =
        let f : r.first ≤ k = grind (arith, nat_tests) in
        let l : r.last < k = is_behind r k f (neither (covers r k) (is_covered rs k) n).0 in
        let q : k - 1 ≡ r.last = omega arith in
        let j = joined_room r.first k rs f (subst (λ m. RangesFrom 2 m rs) (omega arith) h.2) in
        omega (arith, j, q)

pub put_into : (k n p : ℕ) (rs : List TokenRange) → n ≡ k - 1 → RangesFrom 2 0 rs → p ≤ length rs → AreBelow n p rs
    → EndsFrom k (drop p rs) → is_covered rs k ≡ false → IsWith k rs (take p rs ++ with_new_number k (drop p rs))
put_into k n p rs m h s b ends lacks =
    let behind : is_covered (drop p rs) k ≡ false =
    (neither (is_covered (take p rs) k) (is_covered (drop p rs) k) (sym (covered_at p rs k) ∙ lacks)).1 in
    record {
      put = λ j. covered_append (take p rs) (with_new_number k (drop p rs)) j
          ∙ ap (λ c. is_covered (take p rs) j || c) (with_covered k 0 (drop p rs) j (drop_ranges 0 p rs h) behind ends)
          ∙ or_swap (is_covered (take p rs) j) (eqb j k) (is_covered (drop p rs) j)
          ∙ ap (λ c. eqb j k || c) (sym (covered_at p rs j));
      apart = order_kept k 0 p rs (with_new_number k (drop p rs)) h (omega arith)
          (λ i d x y. let w : (get_or rs i d).last < n = b i d x y in omega arith) s
          (λ c g o. with_order k c (drop p rs) g o behind ends);
      room =
          let a = most_append (take p rs) (with_new_number k (drop p rs)) in
          let c = most_at p rs in
          let d = with_room k 0 (drop p rs) (drop_ranges 0 p rs h) behind ends in
          omega (arith, a, c, d);
    }

pub ends_from : (k n p : ℕ) (rs : List TokenRange) → n ≡ k - 1
    → ((i : ℕ) (d : TokenRange) → p ≤ i → i < length rs → n ≤ (get_or rs i d).last) → EndsFrom k (drop p rs)
ends_from k n zero [] m h = tt
ends_from k n zero (r ∷ rs) m h = let z : n ≤ r.last = h 0 r (omega arith) (omega arith) in omega arith
ends_from k n (suc p) [] m h = tt
ends_from k n (suc p) (r ∷ rs) m h = ends_from k n p rs m (λ i d l g. h (suc i) d (omega arith) (omega arith))

-- a number taken out of a range: nothing of it is left, its end, its beginning, or both
module _ (k : ℕ) (z : TokenRange) (ys : List TokenRange) where
  begins : (k ≤ z.first → nat_lt z.first k ≡ false) × (z.first < k → nat_lt z.first k ≡ true)
  begins = (λ h. grind (arith, nat_tests), λ h. grind (arith, nat_tests))

  ends : (z.last ≤ k → nat_lt k z.last ≡ false) × (k < z.last → nat_lt k z.last ≡ true)
  ends = (λ h. grind (arith, nat_tests), λ h. grind (arith, nat_tests))

  pub without_none : k ≤ z.first → z.last ≤ k → without_number k (z ∷ ys) ≡ ys
  without_none f l = rw (begins.0 f, ends.0 l) refl

  pub without_front : k ≤ z.first → k < z.last → without_number k (z ∷ ys) ≡ range_of (k + 1) z.last ∷ ys
  without_front f l = rw (begins.0 f, ends.1 l) refl

  pub without_back : z.first < k → z.last ≤ k → without_number k (z ∷ ys) ≡ range_of z.first (k - 1) ∷ ys
  without_back f l = rw (begins.1 f, ends.0 l) refl

  pub without_parts : z.first < k → k < z.last → without_number k (z ∷ ys) ≡ range_of z.first (k - 1) ∷ range_of (k + 1) z.last ∷ ys
  without_parts f l = rw (begins.1 f, ends.1 l) refl

-- each range takes a place
pub few_ranges : (rs : List TokenRange) → length rs ≤ most_ranges rs
few_ranges [] = omega arith
few_ranges (r ∷ rs) = let h = few_ranges rs in omega (arith, h)

-- where a range is parted there is room for one more
pub room_to_part : (k p : ℕ) (rs : List TokenRange) (z : TokenRange) → p < length rs → drop p rs ≡ z ∷ drop (suc p) rs
    → z.first < k → k < z.last → length rs < most_ranges rs
room_to_part k zero [] z l e f g = absurd (omega arith)
room_to_part k zero (r ∷ rs) z l e f g =
    let q : z ≡ r = cc in
    let x : r.first < k = subst (λ (s : TokenRange). s.first < k) q f in
    let y : k < r.last = subst (λ (s : TokenRange). k < s.last) q g in
    let h = few_ranges rs in
    omega (arith, h, x, y)
room_to_part k (suc p) [] z l e f g = absurd (omega arith)
room_to_part k (suc p) (r ∷ rs) z l e f g = let h = room_to_part k p rs z (omega arith) e f g in omega (arith, h)

-- a range that is joined with the next one, and one that isn't
pub joins_next : (f k : ℕ) (y : TokenRange) (ys : List TokenRange) → eqb y.first (k + 1) ≡ true
    → joined_up_to f k (y ∷ ys) ≡ range_of f y.last ∷ ys
joins_next f k y ys e = rw e refl

pub joins_none : (f k : ℕ) (ys : List TokenRange) → begins_behind k ys ≡ false → joined_up_to f k ys ≡ range_of f k ∷ ys
joins_none f k [] e = refl
joins_none f k (y ∷ ys) e = rw e refl

pub behind_within : (k p : ℕ) (rs : List TokenRange) → begins_behind k (drop p rs) ≡ true → p < length rs
behind_within k zero [] e = let z : ⊥ = cc in absurd z
behind_within k zero (r ∷ rs) e = omega arith
behind_within k (suc p) [] e = let z : ⊥ = cc in absurd z
behind_within k (suc p) (r ∷ rs) e = let h = behind_within k p rs e in omega (arith, h)

pub apart_within : (k p : ℕ) (rs : List TokenRange) → begins_apart k (drop p rs) ≡ false → p < length rs
apart_within k zero [] e = let z : ⊥ = cc in absurd z
apart_within k zero (r ∷ rs) e = omega arith
apart_within k (suc p) [] e = let z : ⊥ = cc in absurd z
apart_within k (suc p) (r ∷ rs) e = let h = apart_within k p rs e in omega (arith, h)

-- a number put in: alone, in front of a range, or behind it
pub puts_alone : (k : ℕ) (rs : List TokenRange) → begins_apart k rs ≡ true → with_new_number k rs ≡ range_of k k ∷ rs
puts_alone k [] e = refl
puts_alone k (r ∷ rs) e = rw e refl

pub puts_front : (k : ℕ) (z : TokenRange) (ys : List TokenRange) → nat_lt (k + 1) z.first ≡ false → nat_lt k z.first ≡ true
    → with_new_number k (z ∷ ys) ≡ range_of k z.last ∷ ys
puts_front k z ys e g = rw (e, g) refl

pub puts_behind : (k : ℕ) (z : TokenRange) (ys : List TokenRange) → nat_lt (k + 1) z.first ≡ false → nat_lt k z.first ≡ false
    → with_new_number k (z ∷ ys) ≡ joined_up_to z.first k ys
puts_behind k z ys e g = rw (e, g) refl

-- the first range behind a place from which on none ends before n
abbrev pub EndFrom : ℕ → ℕ → List TokenRange → Type 0
EndFrom n p rs = (i : ℕ) (d : TokenRange) → p ≤ i → i < length rs → n ≤ (get_or rs i d).last

first_end : (n p : ℕ) (rs zs : List TokenRange) (z : TokenRange) → EndFrom n p rs → drop p rs ≡ z ∷ zs → n ≤ z.last
first_end n zero [] zs z h e = let w : ⊥ = cc in absurd w
first_end n zero (r ∷ rs) zs z h e = let q : r ≡ z = cc in subst (λ (s : TokenRange). n ≤ s.last) q (h 0 r (omega arith) (omega arith))
first_end n (suc p) [] zs z h e = let w : ⊥ = cc in absurd w
first_end n (suc p) (r ∷ rs) zs z h e = first_end n p rs zs z (λ i d l g. h (suc i) d (omega arith) (omega arith)) e

-- a number is in ranges where the first one that doesn't end before it begins at most there
pub found_by : (k p : ℕ) (rs : List TokenRange) → RangesFrom 2 0 rs → p ≤ length rs → AreBelow k p rs → EndFrom k p rs
    → is_covered rs k ≡ begins_by k (drop p rs)
found_by k p rs h s b n =
    covered_at p rs k ∙ ap (λ c. c || is_covered (drop p rs) k) (front_lacks k p rs k b s (omega arith))
    ∙ go (drop p rs) refl (drop_ranges 0 p rs h)
  where
    go : (zs : List TokenRange) → drop p rs ≡ zs → RangesFrom 2 0 zs → is_covered zs k ≡ begins_by k zs
    go [] e g = refl
    go (z ∷ zs) e g = side (cases_lt k z.first)
      where
        side : (k < z.first) ⊎ (z.first ≤ k) → is_covered (z ∷ zs) k ≡ nat_le z.first k
        side (inl l) =
            let x : nat_le z.first k ≡ false = grind (arith, nat_tests) in
            lacks_below 2 z.first (z ∷ zs) k (omega arith, g.1, g.2) l ∙ sym x
        side (inr l) =
            let x : nat_le z.first k ≡ true = grind (arith, nat_tests) in
            ap (λ c. c || is_covered zs k) (covers_within z k l (first_end k p rs zs z n e)) ∙ sym x

-- the same, where the places are those of slices of the ranges
pub found_seen : (k p : ℕ) (rs seen seen' : List TokenRange) (answer : Bool) → seen ≡ rs → seen' ≡ rs → RangesFrom 2 0 rs
    → p ≤ length seen → AreBelow k p seen × EndFrom k p seen → answer ≡ begins_by k (drop p seen') → is_covered rs k ≡ answer
found_seen k p rs seen seen' answer e d h l b a =
    found_by k p rs h (subst (λ s. p ≤ length s) e l) (subst (AreBelow k p) e b.0) (subst (EndFrom k p) e b.1)
    ∙ ap (λ s. begins_by k (drop p s)) (sym d) ∙ sym a

pub in_first : (k p : ℕ) (rs : List TokenRange) → EndFrom k p rs → begins_by k (drop p rs) ≡ true → IsInFirst k (drop p rs)
in_first k p rs n b = go (drop p rs) refl b
  where
    go : (zs : List TokenRange) → drop p rs ≡ zs → begins_by k zs ≡ true → IsInFirst k zs
    go [] e g = let w : ⊥ = cc in absurd w
    go (z ∷ zs) e g = ((let x : z.first ≤ k = grind (arith, nat_tests) in x), first_end k p rs zs z n e)

pub begins_in : (k p : ℕ) (rs : List TokenRange) → begins_by k (drop p rs) ≡ true → p < length rs
begins_in k zero [] e = let z : ⊥ = cc in absurd z
begins_in k zero (r ∷ rs) e = omega arith
begins_in k (suc p) [] e = let z : ⊥ = cc in absurd z
begins_in k (suc p) (r ∷ rs) e = let h = begins_in k p rs e in omega (arith, h)

-- a number that isn't there takes nothing out
pub nothing_gone : (k : ℕ) (rs : List TokenRange) (j : ℕ) → is_covered rs k ≡ false
    → is_covered rs j ≡ (not (eqb j k) && is_covered rs j)
nothing_gone k rs j e = go (cases_eq j k)
  where
    go : (j ≡ k) ⊎ (j ≡ k → ⊥) → is_covered rs j ≡ (not (eqb j k) && is_covered rs j)
    go (inl q) = ap (is_covered rs) q ∙ e ∙ sym (ap (λ b. not b && is_covered rs j) (ap (λ x. eqb x k) q ∙ eqb_self k))
    go (inr q) = sym (ap (λ b. not b && is_covered rs j) (eqb_not j k q))
