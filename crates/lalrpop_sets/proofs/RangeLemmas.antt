-- Ranges that ascend: which numbers they have, and their list; for sets of tokens and walks over them.
use Rattle.std.proofs.Common.{◌≡◌, ℕ, zero, suc, ◌+◌, ◌-◌, ◌<◌, ◌≤◌, Bool, true, false, cond, ◌||◌, ◌&&◌, List, [], ◌∷◌, ◌++◌}
use Rattle.std.proofs.Common.{eqb, nat_le, nat_lt, refl, sym, ap, ◌∙◌, subst, arith, ◌⊎◌, inl, inr, Option, Some, None}
use Rattle.std.proofs.lemmas.Bool.{cases_lt}
use Rattle.std.proofs.lemmas.Bool.Decides.{nat_tests}
use Rattle.std.specs.List.{range_with_len}
use Rattle.lalrpop_sets.specs.AscendingLists.{has, Ascends, AscendsFrom}
use Rattle.lalrpop_sets.specs.Ranges.{RangesFrom, covers, covers_end, is_covered, numbers_in_ranges, range_numbers, range_of, token_numbers, with_end, with_one}
use Rattle.lalrpop_sets.specs.Tokens.{is_number}
use Rattle.lalrpop_sets.specs.declared.token_range.TokenRange.{TokenRange}
use Rattle.lalrpop_sets.proofs.AscendingListLemmas.{asc_more, cases_eq, eqb_not, eqb_self}

pub or_false : (b : Bool) → (b || false) ≡ b
or_false true = refl
or_false false = refl

pub and_false : (b : Bool) → (b && false) ≡ false
and_false true = refl
and_false false = refl

pub or_assoc : (a b c : Bool) → ((a || b) || c) ≡ (a || (b || c))
or_assoc true b c = refl
or_assoc false b c = refl

pub or_swap : (a b c : Bool) → (a || (b || c)) ≡ (b || (a || c))
or_swap true true c = refl
or_swap true false c = refl
or_swap false b c = refl

-- a range has the numbers from its first to its last
pub covers_within : (r : TokenRange) (k : ℕ) → r.first ≤ k → k ≤ r.last → covers r k ≡ true
covers_within r k h g = grind (arith, nat_tests)

pub covers_below : (r : TokenRange) (k : ℕ) → k < r.first → covers r k ≡ false
covers_below r k h = grind (arith, nat_tests)

pub covers_above : (r : TokenRange) (k : ℕ) → r.last < k → covers r k ≡ false
covers_above r k h = go (cases_lt k r.first)
  where
    go : (k < r.first) ⊎ (r.first ≤ k) → covers r k ≡ false
    go (inl l) = covers_below r k l
    go (inr l) =
        let a : nat_le r.first k ≡ true = grind (arith, nat_tests) in
        let b : nat_le k r.last ≡ false = grind (arith, nat_tests) in
        ap (λ x. x && nat_le k r.last) a ∙ b

-- where a number lies, seen from a range
pub covers_cases : (r : TokenRange) (k : ℕ) → ((r.first ≤ k) × (k ≤ r.last)) ⊎ ((k < r.first) ⊎ (r.last < k))
covers_cases r k = go (cases_lt k r.first) (cases_lt r.last k)
  where
    go : (k < r.first) ⊎ (r.first ≤ k) → (r.last < k) ⊎ (k ≤ r.last) → ((r.first ≤ k) × (k ≤ r.last)) ⊎ ((k < r.first) ⊎ (r.last < k))
    go (inl a) b = inr (inl a)
    go (inr a) (inl b) = inr (inr b)
    go (inr a) (inr b) = inl (a, b)

pub covers_true : (r : TokenRange) (k : ℕ) → covers r k ≡ true → (r.first ≤ k) × (k ≤ r.last)
covers_true r k h = go (covers_cases r k)
  where
    go : ((r.first ≤ k) × (k ≤ r.last)) ⊎ ((k < r.first) ⊎ (r.last < k)) → (r.first ≤ k) × (k ≤ r.last)
    go (inl a) = a
    go (inr (inl a)) = let z : ⊥ = let e : true ≡ false = sym h ∙ covers_below r k a in cc in absurd z
    go (inr (inr a)) = let z : ⊥ = let e : true ≡ false = sym h ∙ covers_above r k a in cc in absurd z

-- a range of one number
pub covers_one : (e k : ℕ) → covers (range_of e e) k ≡ eqb k e
covers_one e k = go (cases_eq k e) (covers_cases (range_of e e) k)
  where
    go : (k ≡ e) ⊎ (k ≡ e → ⊥) → ((e ≤ k) × (k ≤ e)) ⊎ ((k < e) ⊎ (e < k)) → covers (range_of e e) k ≡ eqb k e
    go (inl i) c = covers_within (range_of e e) k (omega arith) (omega arith) ∙ sym (ap (λ x. eqb x e) i ∙ eqb_self e)
    go (inr n) (inl c) = absurd (n (let a : e ≤ k = c.0 in let b : k ≤ e = c.1 in omega arith))
    go (inr n) (inr (inl c)) = covers_below (range_of e e) k c ∙ sym (eqb_not k e n)
    go (inr n) (inr (inr c)) = covers_above (range_of e e) k c ∙ sym (eqb_not k e n)

-- a range in two parts
pub covers_parts : (f m l k : ℕ) → f ≤ m + 1 → m ≤ l
    → covers (range_of f l) k ≡ (covers (range_of f m) k || covers (range_of (m + 1) l) k)
covers_parts f m l k h g = go (cases_lt m k) (covers_cases (range_of f l) k)
  where
    go : (m < k) ⊎ (k ≤ m) → ((f ≤ k) × (k ≤ l)) ⊎ ((k < f) ⊎ (l < k))
        → covers (range_of f l) k ≡ (covers (range_of f m) k || covers (range_of (m + 1) l) k)
    go (inl a) (inl c) =
        let x : f ≤ k = c.0 in
        let y : k ≤ l = c.1 in
        covers_within (range_of f l) k x y
        ∙ sym (ap (λ b. b || covers (range_of (m + 1) l) k) (covers_above (range_of f m) k a)
        ∙ covers_within (range_of (m + 1) l) k (omega arith) y)
    go (inl a) (inr (inl c)) =
        covers_below (range_of f l) k c
        ∙ sym (ap (λ b. b || covers (range_of (m + 1) l) k) (covers_below (range_of f m) k c)
        ∙ covers_below (range_of (m + 1) l) k (omega arith))
    go (inl a) (inr (inr c)) =
        covers_above (range_of f l) k c
        ∙ sym (ap (λ b. b || covers (range_of (m + 1) l) k) (covers_above (range_of f m) k a)
        ∙ covers_above (range_of (m + 1) l) k c)
    go (inr a) (inl c) =
        let x : f ≤ k = c.0 in
        covers_within (range_of f l) k x c.1
        ∙ sym (ap (λ b. b || covers (range_of (m + 1) l) k) (covers_within (range_of f m) k x a))
    go (inr a) (inr (inl c)) =
        covers_below (range_of f l) k c
        ∙ sym (ap (λ b. b || covers (range_of (m + 1) l) k) (covers_below (range_of f m) k c)
        ∙ covers_below (range_of (m + 1) l) k (omega arith))
    go (inr a) (inr (inr c)) = absurd (omega arith)

-- ranges from a number on are ranges from a smaller one on
pub ranges_weaken : (gap a b : ℕ) (rs : List TokenRange) → b ≤ a → RangesFrom gap a rs → RangesFrom gap b rs
ranges_weaken gap a b [] h g = tt
ranges_weaken gap a b (r ∷ rs) h g = (let z : a ≤ r.first = g.0 in omega arith, g.1, g.2)

-- ranges that don't touch are ranges that may
pub ranges_touch : (a : ℕ) (rs : List TokenRange) → RangesFrom 2 a rs → RangesFrom 1 a rs
ranges_touch a [] h = tt
ranges_touch a (r ∷ rs) h =
    (h.0, h.1, ranges_weaken 1 (r.last + 2) (r.last + 1) rs (omega arith) (ranges_touch (r.last + 2) rs h.2))

-- below where they begin they have nothing
pub lacks_below : (gap a : ℕ) (rs : List TokenRange) (k : ℕ) → RangesFrom gap a rs → k < a → is_covered rs k ≡ false
lacks_below gap a [] k h l = refl
lacks_below gap a (r ∷ rs) k h l =
    let f : a ≤ r.first = h.0 in
    let o : r.first ≤ r.last = h.1 in
    ap (λ b. b || is_covered rs k) (covers_below r k (omega arith)) ∙ lacks_below gap (r.last + gap) rs k h.2 (omega arith)

-- what is in them is from there on
pub covered_from : (gap a : ℕ) (rs : List TokenRange) (k : ℕ) → RangesFrom gap a rs → is_covered rs k ≡ true → a ≤ k
covered_from gap a rs k h e = go (cases_lt k a)
  where
    go : (k < a) ⊎ (a ≤ k) → a ≤ k
    go (inl l) = let z : ⊥ = let i : true ≡ false = sym e ∙ lacks_below gap a rs k h l in cc in absurd z
    go (inr l) = l

-- the numbers of one range
has_interval : (a n k : ℕ) → has (range_with_len a n) k ≡ (nat_le a k && nat_lt k (a + n))
has_interval a zero k = go (cases_lt k a)
  where
    go : (k < a) ⊎ (a ≤ k) → false ≡ (nat_le a k && nat_lt k (a + 0))
    go (inl l) = let x : nat_le a k ≡ false = grind (arith, nat_tests) in sym (ap (λ b. b && nat_lt k (a + 0)) x)
    go (inr l) =
        let x : nat_le a k ≡ true = grind (arith, nat_tests) in
        let y : nat_lt k (a + 0) ≡ false = grind (arith, nat_tests) in
        sym (ap (λ b. b && nat_lt k (a + 0)) x ∙ y)
has_interval a (suc n) k = ap (λ b. eqb a k || b) (has_interval (a + 1) n k) ∙ go (cases_eq a k) (cases_lt k a)
  where
    go : (a ≡ k) ⊎ (a ≡ k → ⊥) → (k < a) ⊎ (a ≤ k)
        → (eqb a k || (nat_le (a + 1) k && nat_lt k (a + 1 + n))) ≡ (nat_le a k && nat_lt k (a + suc n))
    go (inl e) l =
        let x : nat_le a k ≡ true = grind (arith, nat_tests) in
        let y : nat_lt k (a + suc n) ≡ true = grind (arith, nat_tests) in
        ap (λ b. b || (nat_le (a + 1) k && nat_lt k (a + 1 + n))) (ap (λ m. eqb a m) (sym e) ∙ eqb_self a)
        ∙ sym (ap (λ b. b && nat_lt k (a + suc n)) x ∙ y)
    go (inr e) (inl l) =
        let x : nat_le a k ≡ false = grind (arith, nat_tests) in
        let y : nat_le (a + 1) k ≡ false = grind (arith, nat_tests) in
        ap (λ b. b || (nat_le (a + 1) k && nat_lt k (a + 1 + n))) (eqb_not a k e)
        ∙ ap (λ b. b && nat_lt k (a + 1 + n)) y ∙ sym (ap (λ b. b && nat_lt k (a + suc n)) x)
    go (inr e) (inr l) =
        let x : nat_le a k ≡ true = grind (arith, nat_tests) in
        let y : nat_le (a + 1) k ≡ true = grind (arith, nat_tests) in
        let z : nat_lt k (a + 1 + n) ≡ nat_lt k (a + suc n) = ap (nat_lt k) (omega arith) in
        ap (λ b. b || (nat_le (a + 1) k && nat_lt k (a + 1 + n))) (eqb_not a k e)
        ∙ ap (λ b. b && nat_lt k (a + 1 + n)) y ∙ z ∙ sym (ap (λ b. b && nat_lt k (a + suc n)) x)

has_append : (xs ys : List ℕ) (k : ℕ) → has (xs ++ ys) k ≡ (has xs k || has ys k)
has_append [] ys k = refl
has_append (x ∷ xs) ys k = ap (λ b. eqb x k || b) (has_append xs ys k) ∙ sym (or_assoc (eqb x k) (has xs k) (has ys k))

pub has_of_range : (r : TokenRange) (k : ℕ) → r.first ≤ r.last → has (range_numbers r) k ≡ covers r k
has_of_range r k h =
    let z : nat_lt k (r.first + (r.last - r.first + 1)) ≡ nat_le k r.last = grind (arith, nat_tests) in
    has_interval r.first (r.last - r.first + 1) k ∙ ap (λ b. nat_le r.first k && b) z

-- the list of ranges has what they have
pub has_numbers : (gap a : ℕ) (rs : List TokenRange) (k : ℕ) → RangesFrom gap a rs → has (numbers_in_ranges rs) k ≡ is_covered rs k
has_numbers gap a [] k h = refl
has_numbers gap a (r ∷ rs) k h =
    has_append (range_numbers r) (numbers_in_ranges rs) k ∙ ap (λ b. b || has (numbers_in_ranges rs) k) (has_of_range r k h.1)
    ∙ ap (λ b. covers r k || b) (has_numbers gap (r.last + gap) rs k h.2)

asc_interval : (a b n : ℕ) (ys : List ℕ) → b ≤ a → AscendsFrom (a + n) ys → AscendsFrom b (range_with_len a n ++ ys)
asc_interval a b zero ys h g = asc_more (a + 0) b ys (omega arith) g
asc_interval a b (suc n) ys h g =
    (h, asc_interval (a + 1) (suc a) n ys (omega arith) (subst (λ m. AscendsFrom m ys) (omega arith) g))

-- and ascends
pub numbers_ascend : (a : ℕ) (rs : List TokenRange) → RangesFrom 1 a rs → AscendsFrom a (numbers_in_ranges rs)
numbers_ascend a [] h = tt
numbers_ascend a (r ∷ rs) h =
    let o : r.first ≤ r.last = h.1 in
    asc_interval r.first a (r.last - r.first + 1) (numbers_in_ranges rs) h.0
    (subst (λ m. AscendsFrom m (numbers_in_ranges rs)) (omega arith) (numbers_ascend (r.last + 1) rs h.2))

covered_one : (e : ℕ) (rs : List TokenRange) (k : ℕ) → is_covered (with_one e rs) k ≡ (eqb k e || is_covered rs k)
covered_one e [] k = ap (λ b. b || false) (covers_one e k)
covered_one e (r ∷ rs) k = go (nat_lt e r.first) (covered_one e rs k)
  where
    go : (b : Bool) → is_covered (with_one e rs) k ≡ (eqb k e || is_covered rs k)
        → is_covered (cond b (range_of e e ∷ r ∷ rs) (r ∷ with_one e rs)) k ≡ (eqb k e || (covers r k || is_covered rs k))
    go true h = ap (λ b. b || (covers r k || is_covered rs k)) (covers_one e k)
    go false h = ap (λ b. covers r k || b) h ∙ or_swap (covers r k) (eqb k e) (is_covered rs k)

-- with the end they have its number, too
pub covered_end : (end : Option ℕ) (rs : List TokenRange) (k : ℕ) → is_covered (with_end end rs) k ≡ (is_number end k || is_covered rs k)
covered_end None rs k = refl
covered_end (Some e) rs k = covered_one e rs k

pub neither : (x y : Bool) → (x || y) ≡ false → (x ≡ false) × (y ≡ false)
neither true y z = let w : ⊥ = cc in absurd w
neither false y z = (refl, z)

-- a number that isn't before a range and isn't in it is behind it
pub is_behind : (r : TokenRange) (k : ℕ) → r.first ≤ k → covers r k ≡ false → r.last < k
is_behind r k f e = go (covers_cases r k)
  where
    go : ((r.first ≤ k) × (k ≤ r.last)) ⊎ ((k < r.first) ⊎ (r.last < k)) → r.last < k
    go (inl c) = let z : ⊥ = let i : true ≡ false = sym (covers_within r k c.0 c.1) ∙ e in cc in absurd z
    go (inr (inl c)) = absurd (omega arith)
    go (inr (inr c)) = c

ranges_one : (a e : ℕ) (rs : List TokenRange) → RangesFrom 1 a rs → a ≤ e → is_covered rs e ≡ false
    → RangesFrom 1 a (with_one e rs)
ranges_one a e [] h l f = (l, omega arith, tt)
ranges_one a e (r ∷ rs) h l f = go (nat_lt e r.first) refl
    (λ m. ranges_one (r.last + 1) e rs h.2 m (neither (covers r e) (is_covered rs e) f).1)
  where
    go : (b : Bool) → nat_lt e r.first ≡ b → (r.last + 1 ≤ e → RangesFrom 1 (r.last + 1) (with_one e rs))
        → RangesFrom 1 a (cond b (range_of e e ∷ r ∷ rs) (r ∷ with_one e rs))
    go true n rest = (l, omega arith, ((let m : e < r.first = grind (arith, nat_tests) in omega arith), h.1, h.2))
    go false n rest =
        let m : r.first ≤ e = grind (arith, nat_tests) in
        let p : r.last < e = is_behind r e m (neither (covers r e) (is_covered rs e) f).0 in
        (h.0, h.1, rest (omega arith))

-- the ranges of a set, with the end in its place
pub ranges_end : (end : Option ℕ) (rs : List TokenRange) → RangesFrom 2 0 rs → covers_end rs end ≡ false
    → RangesFrom 1 0 (with_end end rs)
ranges_end None rs h f = ranges_touch 0 rs h
ranges_end (Some e) rs h f = ranges_one 0 e rs (ranges_touch 0 rs h) (omega arith) f

-- the list of a set has the end and what the ranges have, and ascends
pub has_tokens : (rs : List TokenRange) (end : Option ℕ) (k : ℕ) → RangesFrom 2 0 rs → covers_end rs end ≡ false
    → has (token_numbers rs end) k ≡ is_covered (with_end end rs) k
unfolding token_numbers
has_tokens rs end k h f = has_numbers 1 0 (with_end end rs) k (ranges_end end rs h f)

pub asc_tokens : (rs : List TokenRange) (end : Option ℕ) → RangesFrom 2 0 rs → covers_end rs end ≡ false
    → Ascends (token_numbers rs end)
unfolding token_numbers
asc_tokens rs end h f = numbers_ascend 0 (with_end end rs) (ranges_end end rs h f)
