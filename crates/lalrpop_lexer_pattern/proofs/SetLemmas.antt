-- What rising ranges hold, that their members determine them, and how they grow: for the operations on sets.
use Rattle.std.proofs.Common.{◌≡◌, ℕ, zero, suc, ◌+◌, ◌<◌, ◌≤◌, Bool, true, false, cond, ◌&&◌, ◌||◌, ◌==◌}
use Rattle.std.proofs.Common.{◌⊎◌, nat_lt, nat_le, List, [], ◌∷◌, ◌++◌, length, take, sum_by, IsPermutation, refl, sym, ap}
use Rattle.std.proofs.Common.{ap₂, true≢false, ◌∙◌, arith, le_of_suc-le-suc, not-suc-le-zero, inl, inr, eq-or-lt_of_le, le_of_eq}
use Rattle.std.proofs.Common.{le_trans, le_refl, slice_index_or}
use Rattle.std.proofs.lemmas.Bool.{and_parts, and_from, cases_lt, cases_Bool, cases_eq, or_left, or_right, or_cases}
use Rattle.std.proofs.lemmas.Bool.Decides.{nat_tests}
use Rattle.std.proofs.lemmas.List.{take_more, get_or_default}
use Rattle.std.proofs.lemmas.List.Recursion.{or_at, or_from_places}
use Rattle.std.proofs.lemmas.List.Sums.{sum_by-cons}
use Rattle.std.proofs.lemmas.List.Sorted.{sum_by-IsPermutation}
use Rattle.lalrpop_lexer_pattern.specs.declared.class.Range.{Range}
use Rattle.lalrpop_lexer_pattern.specs.Ranges.{IsCanonical}
use Rattle.lalrpop_lexer_pattern.specs.Sets.{some_below, in_range, in_ranges, fits_from, rises_from, IsRising, add_front, ranges_from}
use Rattle.lalrpop_lexer_pattern.specs.Sets.{ranges_of, union_of, last_start_or}

-- a range as its two ends
abbrev pub range_from : ℕ → ℕ → Range
range_from a b = record { start = a; end = b }

-- the range at an index
abbrev pub range_at : List Range → ℕ → Range
range_at rs k = slice_index_or rs k (range_from 0 0)

-- the test of a range, with what it tells
pub in_range_tells : (r : Range) (c : ℕ) → ((in_range r c ≡ true) × (r.start ≤ c) × (c ≤ r.end))
    ⊎ ((in_range r c ≡ false) × ((c < r.start) ⊎ (r.end < c)))
unfolding in_range
in_range_tells r c = grind (arith, nat_tests)

-- one of three, however they are grouped
pub or_assoc : (x y z : Bool) → (x || (y || z)) ≡ ((x || y) || z)
or_assoc true y z = refl
or_assoc false y z = refl

-- a test or false is the test
pub or-false : (x : Bool) → (x || false) ≡ x
or-false true = refl
or-false false = refl

and_assoc : (x y z : Bool) → (x && (y && z)) ≡ ((x && y) && z)
and_assoc true y z = refl
and_assoc false y z = refl

and-true : (x : Bool) → (x && true) ≡ x
and-true true = refl
and-true false = refl

-- the empty list of ranges holds no number
pub in_ranges-nil : (c : ℕ) → in_ranges [] c ≡ false
unfolding in_ranges
in_ranges-nil c = refl

-- ranges hold what the first one or the others hold
pub in_ranges-cons : (r : Range) (rs : List Range) (c : ℕ) → in_ranges (r ∷ rs) c ≡ (in_range r c || in_ranges rs c)
unfolding in_ranges
in_ranges-cons r rs c = refl

-- ranges behind ranges hold what the ones or the others hold
pub in_ranges-append : (xs ys : List Range) (c : ℕ) → in_ranges (xs ++ ys) c ≡ (in_ranges xs c || in_ranges ys c)
unfolding in_ranges
in_ranges-append [] ys c = refl
in_ranges-append (x ∷ xs) ys c =
    ap (λ b. in_range x c || b) (in_ranges-append xs ys c) ∙ or_assoc (in_range x c) (in_ranges xs c) (in_ranges ys c)

-- with a range put behind them, ranges hold what they held and what it holds
pub in_ranges-push : (xs : List Range) (r : Range) (c : ℕ) → in_ranges (xs ++ r ∷ []) c ≡ (in_ranges xs c || in_range r c)
unfolding in_ranges
in_ranges-push xs r c =
    in_ranges-append xs (r ∷ []) c ∙ ap (λ b. in_ranges xs c || b) (or-false (in_range r c))

-- the first i + 1 ranges hold what the first i hold and what the one at i holds
pub in_ranges-more : (xs : List Range) (i c : ℕ) → i < length xs
    → in_ranges (take (i + 1) xs) c ≡ (in_ranges (take i xs) c || in_range (range_at xs i) c)
in_ranges-more xs i c h =
    ap (λ l. in_ranges l c) (take_more xs i (range_from 0 0) h) ∙ in_ranges-push (take i xs) (range_at xs i) c

-- ranges hold what the one at an index holds
pub in_ranges-at : (rs : List Range) (k c : ℕ) → k < length rs → in_range (range_at rs k) c ≡ true → in_ranges rs c ≡ true
unfolding in_ranges
in_ranges-at rs k c h t = or_at (λ l. in_ranges l c) (λ r. in_range r c) refl (λ _ _. refl) rs k (range_from 0 0) h t

-- no range holds a number that lies below the start or above the end of each
pub in_ranges-outside : (rs : List Range) (c : ℕ)
    → ((k : ℕ) → k < length rs → (c < (range_at rs k).start) ⊎ ((range_at rs k).end < c)) → in_ranges rs c ≡ false
unfolding in_ranges
in_ranges-outside rs c h =
    or_from_places (λ l. in_ranges l c) (λ r. in_range r c) refl (λ _ _. refl) rs (range_from 0 0)
    (λ k hk. grind (arith, in_range_tells (range_at rs k) c, h k hk))

-- how many of the ranges hold the number
abbrev hits : ℕ → List Range → ℕ
hits c rs = sum_by (λ r. cond (in_range r c) 1 0) rs

or-nat_lt : (b : Bool) (n : ℕ) → (b || nat_lt 0 n) ≡ nat_lt 0 (cond b 1 0 + n)
or-nat_lt true n = grind (arith, nat_tests)
or-nat_lt false n = grind (arith, nat_tests)

in_ranges-hits : (rs : List Range) (c : ℕ) → in_ranges rs c ≡ nat_lt 0 (hits c rs)
unfolding in_ranges
in_ranges-hits [] c = refl
in_ranges-hits (r ∷ rs) c =
    ap (λ b. in_range r c || b) (in_ranges-hits rs c) ∙ or-nat_lt (in_range r c) (hits c rs)
    ∙ ap (nat_lt 0) (sym (sum_by-cons (λ x. cond (in_range x c) 1 0) r rs))

-- the order of the ranges is nothing to their members
pub in_ranges-IsPermutation : (xs ys : List Range) (c : ℕ) → IsPermutation xs ys → in_ranges ys c ≡ in_ranges xs c
in_ranges-IsPermutation xs ys c h =
    in_ranges-hits ys c
    ∙ ap (nat_lt 0) (sum_by-IsPermutation (λ r. cond (in_range r c) 1 0) xs ys h)
    ∙ sym (in_ranges-hits xs c)

-- where a range may start after these
unfoldable pub next_free : ℕ → List Range → ℕ
next_free n [] = n
next_free n (r ∷ rs) = next_free (r.end + 2) rs

-- without ranges, the next one may start at the number given
pub next_free-nil : (n : ℕ) → next_free n [] ≡ n
unfolding next_free
next_free-nil n = refl

-- behind a last range, the next one may start two above its end
pub next_free-push : (n : ℕ) (xs : List Range) (r : Range) → next_free n (xs ++ r ∷ []) ≡ r.end + 2
unfolding next_free
next_free-push n [] r = refl
next_free-push n (x ∷ xs) r = next_free-push (x.end + 2) xs r

-- a range put behind others is the last to start
pub last_start_or-push : (n : ℕ) (xs : List Range) (r : Range) → last_start_or n (xs ++ r ∷ []) ≡ r.start
unfolding last_start_or
last_start_or-push n [] r = refl
last_start_or-push n (x ∷ xs) r = last_start_or-push x.start xs r

-- without ranges, the number given stands for the last start
pub last_start_or-nil : (n : ℕ) → last_start_or n [] ≡ n
unfolding last_start_or
last_start_or-nil n = refl

-- the empty list of ranges rises from any number
pub rises_from-nil : (n : ℕ) → rises_from n [] ≡ true
unfolding rises_from
rises_from-nil n = refl

-- with a range put behind them, ranges rise where they rose and that one fits behind them
pub rises_from-push : (n : ℕ) (xs : List Range) (r : Range)
    → rises_from n (xs ++ r ∷ []) ≡ (rises_from n xs && fits_from (next_free n xs) r)
unfolding rises_from next_free
rises_from-push n [] r = and-true (fits_from n r)
rises_from-push n (x ∷ xs) r =
    ap (λ b. fits_from n x && b) (rises_from-push (x.end + 2) xs r)
    ∙ and_assoc (fits_from n x) (rises_from (x.end + 2) xs) (fits_from (next_free (x.end + 2) xs) r)

-- a range that fits starts no lower than the number, has a member, and ends within Unicode
pub fits_from-true : (n : ℕ) (r : Range) → fits_from n r ≡ true → (n ≤ r.start) × (r.start ≤ r.end) × (r.end ≤ 0x10_FFFF)
fits_from-true n r h = grind (arith, nat_tests)

-- a range fits that starts no lower than the number, has a member, and ends within Unicode
pub le-fits_from : (n : ℕ) (r : Range) → n ≤ r.start → r.start ≤ r.end → r.end ≤ 0x10_FFFF → fits_from n r ≡ true
le-fits_from n r a b c = grind (arith, nat_tests)

pub rises_from-parts : (n : ℕ) (r : Range) (rs : List Range) → rises_from n (r ∷ rs) ≡ true → (fits_from n r ≡ true)
    × (rises_from (r.end + 2) rs ≡ true)
unfolding rises_from
rises_from-parts n r rs h = and_parts _ _ h

pub rises_from-cons : (n : ℕ) (r : Range) (rs : List Range) → fits_from n r ≡ true → rises_from (r.end + 2) rs ≡ true
    → rises_from n (r ∷ rs) ≡ true
unfolding rises_from
rises_from-cons n r rs h t = and_from _ _ h t

-- each of some rising ranges starts no lower than the number, has a member, and ends within Unicode
pub rises_from-at : (n : ℕ) (rs : List Range) (k : ℕ) → rises_from n rs ≡ true → k < length rs → (n ≤ (range_at rs k).start)
    × ((range_at rs k).start ≤ (range_at rs k).end) × ((range_at rs k).end ≤ 0x10_FFFF)
rises_from-at n [] k h hk = absurd (not-suc-le-zero hk)
rises_from-at n (r ∷ rs) zero h hk = fits_from-true n r (rises_from-parts n r rs h).0
rises_from-at n (r ∷ rs) (suc k) h hk =
    let parts = rises_from-parts n r rs h in
    let head = fits_from-true n r parts.0 in
    let rest = rises_from-at (r.end + 2) rs k parts.1 (le_of_suc-le-suc hk) in
    (omega arith, rest.1, rest.2)

-- between two of some rising ranges there is a gap
pub rises_from-gap : (n : ℕ) (rs : List Range) (i j : ℕ) → rises_from n rs ≡ true → i < j → j < length rs
    → (range_at rs i).end + 1 < (range_at rs j).start
rises_from-gap n [] i j h lt hj = absurd (not-suc-le-zero hj)
rises_from-gap n (r ∷ rs) zero zero h lt hj = absurd (not-suc-le-zero lt)
rises_from-gap n (r ∷ rs) (suc i) zero h lt hj = absurd (not-suc-le-zero lt)
rises_from-gap n (r ∷ rs) zero (suc j) h lt hj =
    let rest = rises_from-at (r.end + 2) rs j (rises_from-parts n r rs h).1 (le_of_suc-le-suc hj) in
    omega arith
rises_from-gap n (r ∷ rs) (suc i) (suc j) h lt hj =
    rises_from-gap (r.end + 2) rs i j (rises_from-parts n r rs h).1 (le_of_suc-le-suc lt) (le_of_suc-le-suc hj)

-- no member above the end of Unicode, or below the number that the ranges rise from
pub in_ranges-above_max : (n : ℕ) (rs : List Range) (c : ℕ) → rises_from n rs ≡ true → 0x10_FFFF < c → in_ranges rs c ≡ false
in_ranges-above_max n rs c h above = in_ranges-outside rs c (λ k hk. inr (omega (arith, (rises_from-at n rs k h hk).2)))

pub in_ranges-below : (n : ℕ) (rs : List Range) (c : ℕ) → rises_from n rs ≡ true → c < n → in_ranges rs c ≡ false
in_ranges-below n rs c h below = in_ranges-outside rs c (λ k hk. inl (omega (arith, (rises_from-at n rs k h hk).0)))

-- a member of the first range of one list, or the number after that range, tells where the first range of the other lies
first_within : (n : ℕ) (x y : Range) (xs ys : List Range) → rises_from n (x ∷ xs) ≡ true → rises_from n (y ∷ ys) ≡ true →
    ((c : ℕ) → in_ranges (x ∷ xs) c ≡ in_ranges (y ∷ ys) c) → (y.start ≤ x.start) × (x.start ≡ y.start → y.end ≤ x.end)
first_within n x y xs ys hx hy same =
    let px = rises_from-parts n x xs hx in
    let py = rises_from-parts n y ys hy in
    let fx = fits_from-true n x px.0 in
    let fy = fits_from-true n y py.0 in
    let at : (c : ℕ) → (in_range x c || in_ranges xs c) ≡ (in_range y c || in_ranges ys c) =
    λ c. sym (in_ranges-cons x xs c) ∙ same c ∙ in_ranges-cons y ys c in (
      elim (cases_lt x.start y.start) [
        | inl lt ↦
            let yes : in_range x x.start ≡ true = grind (arith, in_range_tells x x.start) in
            let no : in_range y x.start ≡ false = grind (arith, in_range_tells y x.start) in
            absurd (true≢false (rw (yes, no, in_ranges-below (y.end + 2) ys x.start py.1 (omega arith)) at (at x.start)))
        | inr ge ↦ ge
      ],
      λ starts. elim (cases_lt x.end y.end) [
        | inl lt ↦
            let no : in_range x (x.end + 1) ≡ false = grind (arith, in_range_tells x (x.end + 1)) in
            let yes : in_range y (x.end + 1) ≡ true = grind (arith, in_range_tells y (x.end + 1)) in
            absurd (true≢false (sym (rw (yes, no, in_ranges-below (x.end + 2) xs (x.end + 1) px.1 (omega arith)) at (at (x.end + 1)))))
        | inr ge ↦ ge
      ],
    )

first_is_member : (n : ℕ) (x : Range) (xs : List Range) → rises_from n (x ∷ xs) ≡ true → in_ranges (x ∷ xs) x.start ≡ true
first_is_member n x xs h =
    let fits = fits_from-true n x (rises_from-parts n x xs h).0 in
    let yes : in_range x x.start ≡ true = grind (arith, in_range_tells x x.start) in
    in_ranges-cons x xs x.start ∙ ap (λ b. b || in_ranges xs x.start) yes

-- two rising lists with the same members are one list
pub same_from : (n : ℕ) (xs ys : List Range) → rises_from n xs ≡ true → rises_from n ys ≡ true →
    ((c : ℕ) → in_ranges xs c ≡ in_ranges ys c) → xs ≡ ys
same_from n [] [] hx hy same = refl
same_from n [] (y ∷ ys) hx hy same =
    absurd (true≢false (sym (first_is_member n y ys hy) ∙ sym (same y.start) ∙ in_ranges-nil y.start))
same_from n (x ∷ xs) [] hx hy same = absurd (true≢false (sym (first_is_member n x xs hx) ∙ same x.start ∙ in_ranges-nil x.start))
same_from n (x ∷ xs) (y ∷ ys) hx hy same =
    let one = first_within n x y xs ys hx hy same in
    let other = first_within n y x ys xs hy hx (λ c. sym (same c)) in
    let starts : x.start ≡ y.start = omega (arith, one.0, other.0) in
    let ends : x.end ≡ y.end = omega (arith, one.1 starts, other.1 (sym starts)) in
    let tx = (rises_from-parts n x xs hx).1 in
    let ty : rises_from (x.end + 2) ys ≡ true = rw ends (rises_from-parts n y ys hy).1 in
    let rest : (c : ℕ) → in_ranges xs c ≡ in_ranges ys c = λ c. elim (cases_lt c (x.end + 2)) [
      | inl lt ↦ in_ranges-below _ xs c tx lt ∙ sym (in_ranges-below _ ys c ty lt)
      | inr ge ↦
          let no_x : in_range x c ≡ false = grind (arith, in_range_tells x c) in
          let no_y : in_range y c ≡ false = grind (arith, in_range_tells y c) in
          rw (no_x, no_y) at (sym (in_ranges-cons x xs c) ∙ same c ∙ in_ranges-cons y ys c)
    ] in
    ap₂ ◌∷◌ (ap₂ range_from starts ends) (same_from (x.end + 2) xs ys tx ty rest)

-- a number in front
pub in_range-one : (c x : ℕ) → in_range (range_from c c) x ≡ (x == c)
in_range-one c x = grind (arith, nat_tests, in_range_tells (range_from c c) x)

in_range-longer : (b : Bool) (c e x s : ℕ) → s ≡ c + 1 → s ≤ e
    → (in_range (range_from c e) x || b) ≡ ((x == c) || (in_range (range_from s e) x || b))
in_range-longer true c e x s h le = grind (arith, nat_tests, in_range_tells (range_from c e) x, in_range_tells (range_from s e) x)
in_range-longer false c e x s h le = grind (arith, nat_tests, in_range_tells (range_from c e) x, in_range_tells (range_from s e) x)

record IsFront (c : ℕ) (rs new : List Range) : Type 0 where
  rises : rises_from c new ≡ true
  members : (x : ℕ) → in_ranges new x ≡ ((x == c) || in_ranges rs x)

add_front_is : (c : ℕ) (rs : List Range) → c ≤ 0x10_FFFF → rises_from (c + 1) rs ≡ true → IsFront c rs (add_front c rs)
add_front_is c [] le h = record {
  rises = rises_from-cons c (range_from c c) [] (le-fits_from c (range_from c c) (le_refl c) (le_refl c) le) (rises_from-nil _);
  members = λ x. in_ranges-cons _ [] x ∙ ap (λ b. b || in_ranges [] x) (in_range-one c x);
}
add_front_is c (r ∷ rs) le h =
    let parts = rises_from-parts (c + 1) r rs h in
    let fits = fits_from-true (c + 1) r parts.0 in
    elim (cases_eq r.start (c + 1)) [
      | inl e ↦
          let t : (r.start == c + 1) ≡ true = grind (arith, nat_tests) in
          rw t (record {
            rises = rises_from-cons c (range_from c r.end) rs (le-fits_from c (range_from c r.end) (le_refl c) (omega arith) fits.2)
                parts.1;
            members = λ x. in_ranges-cons _ rs x ∙ in_range-longer (in_ranges rs x) c r.end x r.start e fits.1
                ∙ ap (λ b. (x == c) || b) (sym (in_ranges-cons r rs x));
          })
      | inr ne ↦
          let t : (r.start == c + 1) ≡ false = grind (arith, nat_tests) in
          rw t (record {
            rises = rises_from-cons c (range_from c c) (r ∷ rs) (le-fits_from c (range_from c c) (le_refl c) (le_refl c) le)
                (rises_from-cons (c + 2) r rs (le-fits_from (c + 2) r (omega arith) fits.1 fits.2) parts.1);
            members = λ x. in_ranges-cons _ (r ∷ rs) x ∙ ap (λ b. b || in_ranges (r ∷ rs) x) (in_range-one c x);
          })
    ]

rises_from-lower : (m n : ℕ) (rs : List Range) → m ≤ n → rises_from n rs ≡ true → rises_from m rs ≡ true
rises_from-lower m n [] le h = rises_from-nil m
rises_from-lower m n (r ∷ rs) le h =
    let parts = rises_from-parts n r rs h in
    let fits = fits_from-true n r parts.0 in
    rises_from-cons m r rs (le-fits_from m r (le_trans le fits.0) fits.1 fits.2) parts.1

-- the ranges of a test rise, and hold what passes it
record AreFrom (k c : ℕ) (p : ℕ → Bool) (rs : List Range) : Type 0 where
  rises : rises_from c rs ≡ true
  members : (x : ℕ) → in_ranges rs x ≡ ((nat_le c x && nat_lt x (c + k)) && p x)

seen_front : (a b : Bool) (c k x : ℕ) → (x ≡ c → b ≡ true) → a ≡ ((nat_le (c + 1) x && nat_lt x (c + 1 + k)) && b)
    → ((x == c) || a) ≡ ((nat_le c x && nat_lt x (c + suc k)) && b)
seen_front true b c k x h e = grind (arith, nat_tests)
seen_front false true c k x h e = grind (arith, nat_tests)
seen_front false false c k x h e = grind (arith, nat_tests)

not_front : (a b : Bool) (c k x : ℕ) → (x ≡ c → b ≡ false) → a ≡ ((nat_le (c + 1) x && nat_lt x (c + 1 + k)) && b)
    → a ≡ ((nat_le c x && nat_lt x (c + suc k)) && b)
not_front true true c k x h e = grind (arith, nat_tests)
not_front true false c k x h e = grind (arith, nat_tests)
not_front false true c k x h e = grind (arith, nat_tests)
not_front false false c k x h e = grind (arith, nat_tests)

none_of : (c x : ℕ) (b : Bool) → false ≡ ((nat_le c x && nat_lt x (c + zero)) && b)
none_of c x true = grind (arith, nat_tests)
none_of c x false = grind (arith, nat_tests)

are_from : (k c : ℕ) (p : ℕ → Bool) → c + k ≤ 0x11_0000 → AreFrom k c p (ranges_from k c p)
unfolding ranges_from
are_from zero c p le = record {
  rises = rises_from-nil c;
  members = λ x. in_ranges-nil x ∙ none_of c x (p x);
}
are_from (suc k) c p le =
    let rest : AreFrom k (c + 1) p (ranges_from k (c + 1) p) = are_from k (c + 1) p (omega arith) in
    elim (cases_Bool (p c)) [
      | inl t ↦
          let front : IsFront c (ranges_from k (c + 1) p) (add_front c (ranges_from k (c + 1) p)) =
          add_front_is c (ranges_from k (c + 1) p) (omega arith) rest.rises in
          rw t (record {
            rises = front.rises;
            members = λ x. front.members x ∙ seen_front _ (p x) c k x (λ e. ap p e ∙ t) (rest.members x);
          })
      | inr f ↦ rw f (record {
        rises = rises_from-lower c (c + 1) _ (omega arith) rest.rises;
        members = λ x. not_front _ (p x) c k x (λ e. ap p e ∙ f) (rest.members x);
      })
    ]

below_end : (a : Bool) (x : ℕ) → 0x10_FFFF < x → false ≡ ((nat_le 0 x && nat_lt x (0 + 0x11_0000)) && a)
below_end true x h = grind (arith, nat_tests)
below_end false x h = grind (arith, nat_tests)

within_end : (a : Bool) (x : ℕ) → x ≤ 0x10_FFFF → a ≡ ((nat_le 0 x && nat_lt x (0 + 0x11_0000)) && a)
within_end true x h = grind (arith, nat_tests)
within_end false x h = grind (arith, nat_tests)

-- rising ranges that hold what passes the test are those of the test
pub is_ranges_of : (rs : List Range) (p : ℕ → Bool) → IsRising rs → ((c : ℕ) → c ≤ 0x10_FFFF → in_ranges rs c ≡ p c)
    → rs ≡ ranges_of p
unfolding ranges_of
is_ranges_of rs p h same =
    let all : AreFrom 0x11_0000 0 p (ranges_from 0x11_0000 0 p) = are_from 0x11_0000 0 p (omega arith) in
    same_from 0 rs (ranges_from 0x11_0000 0 p) h all.rises (λ c. elim (cases_lt 0x10_FFFF c) [
      | inl above ↦ in_ranges-above_max 0 rs c h above ∙ below_end (p c) c above ∙ sym (all.members c)
      | inr within ↦ same c within ∙ within_end (p c) c within ∙ sym (all.members c)
    ])

-- the same for a test's own ranges
pub in_ranges-ranges_of : (p : ℕ → Bool) (c : ℕ) → c ≤ 0x10_FFFF → in_ranges (ranges_of p) c ≡ p c
unfolding ranges_of
in_ranges-ranges_of p c h =
    let all : AreFrom 0x11_0000 0 p (ranges_from 0x11_0000 0 p) = are_from 0x11_0000 0 p (omega arith) in
    all.members c ∙ sym (within_end (p c) c h)

-- the ranges of a test rise
pub ranges_of-rises : (p : ℕ → Bool) → IsRising (ranges_of p)
unfolding ranges_of
ranges_of-rises p =
    let all : AreFrom 0x11_0000 0 p (ranges_from 0x11_0000 0 p) = are_from 0x11_0000 0 p (omega arith) in
    all.rises

-- two tests that agree within Unicode have the same ranges
pub ranges_of-same : (p q : ℕ → Bool) → ((c : ℕ) → c ≤ 0x10_FFFF → p c ≡ q c) → ranges_of p ≡ ranges_of q
ranges_of-same p q same =
    is_ranges_of (ranges_of p) q (ranges_of-rises p) (λ c h. in_ranges-ranges_of p c h ∙ same c h)

-- of two ranges in order, both ends are in order
pub rises_from-mono : (n : ℕ) (rs : List Range) (i j : ℕ) → rises_from n rs ≡ true → i ≤ j → j < length rs
    → ((range_at rs i).start ≤ (range_at rs j).start) × ((range_at rs i).end ≤ (range_at rs j).end)
rises_from-mono n rs i j h le hj =
    let hi : i < length rs = omega arith in
    let at_i = rises_from-at n rs i h hi in
    let at_j = rises_from-at n rs j h hj in
    elim (eq-or-lt_of_le le) [
      | inl e ↦ (le_of_eq (ap (λ k. (range_at rs k).start) e), le_of_eq (ap (λ k. (range_at rs k).end) e))
      | inr lt ↦ let gap = rises_from-gap n rs i j h lt hj in (omega arith, omega arith)
    ]

-- rising ranges are canonical
pub IsCanonical-from_rising : (rs : List Range) → IsRising rs → IsCanonical rs
IsCanonical-from_rising rs h = record {
  nonempty = λ k d hk. rw (get_or_default rs k d (range_from 0 0) hk) (rises_from-at 0 rs k h hk).1;
  apart = λ i j d lt hj. rw (get_or_default rs i d (range_from 0 0) (omega arith), get_or_default rs j d (range_from 0 0) hj)
      (rises_from-gap 0 rs i j h lt hj);
}

-- a test passed somewhere
pub some_below-from : (n : ℕ) (p : ℕ → Bool) (k : ℕ) → k < n → p k ≡ true → some_below n p ≡ true
unfolding some_below
some_below-from zero p k h t = absurd (not-suc-le-zero h)
some_below-from (suc n) p k h t = elim (cases_eq k n) [
  | inl e ↦ or_left _ _ (ap p (sym e) ∙ t)
  | inr ne ↦ or_right _ _ (some_below-from n p k (omega arith) t)
]

-- where a test is passed somewhere, a number that passes it
pub some_below-true : (n : ℕ) (p : ℕ → Bool) → some_below n p ≡ true → (k : ℕ) × (k < n) × (p k ≡ true)
unfolding some_below
some_below-true zero p h = absurd (true≢false (sym h))
some_below-true (suc n) p h = elim (or_cases _ _ h) [
  | inl t ↦ (n, omega arith, t)
  | inr t ↦ let rest = some_below-true n p t in (rest.0, omega (arith, rest.1), rest.2)
]

-- two tests are one where each passes when the other does
pub same_tests : (a b : Bool) → (a ≡ true → b ≡ true) → (b ≡ true → a ≡ true) → a ≡ b
same_tests true b f g = sym (f refl)
same_tests false true f g = g refl
same_tests false false f g = refl

-- ranges without members are those of no test
pub ranges_of-nil : (rs : List Range) → rs ≡ [] → ranges_of (in_ranges rs) ≡ []
ranges_of-nil rs e =
    sym (is_ranges_of [] (in_ranges rs) (rises_from-nil 0) (λ c h. ap (λ l. in_ranges l c) (sym e)))

-- the members of ranges within Unicode have the same ranges as the test of the ranges
pub ranges_of-again : (p : ℕ → Bool) → ranges_of (in_ranges (ranges_of p)) ≡ ranges_of p
ranges_of-again p = ranges_of-same (in_ranges (ranges_of p)) p (in_ranges-ranges_of p)

-- with the ranges of a set put behind them, ranges have the members of both
pub ranges_of-append : (rs ss both : List Range) → both ≡ rs ++ ss
    → ranges_of (in_ranges both) ≡ union_of (ranges_of (in_ranges rs)) ss
ranges_of-append rs ss both e =
    ranges_of-same (in_ranges both) _ (λ c h. ap (λ l. in_ranges l c) e ∙ in_ranges-append rs ss c
    ∙ ap (λ b. b || in_ranges ss c) (sym (in_ranges-ranges_of (in_ranges rs) c h)))
