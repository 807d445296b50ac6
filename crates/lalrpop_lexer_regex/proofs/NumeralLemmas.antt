-- Numbers as they are printed, and what is read of them. For characters and for counts.
use Rattle.std.proofs.Common.{◌≡◌, ℕ, zero, suc, ◌+◌, ◌-◌, ◌*◌, ◌/◌, ◌%◌, ◌^◌, ◌<◌, ◌≤◌}
use Rattle.std.proofs.Common.{true, false, ◌==◌, min, List, [], ◌∷◌, ◌++◌, length, None, Ok, refl, inl, inr, arith}
use Rattle.std.proofs.Common.{nat_lt, lit≤}
use Rattle.std.proofs.lemmas.Bool.{cases_Bool}
use Rattle.std.proofs.lemmas.Bool.Decides.{nat_tests}
use Rattle.std.proofs.lemmas.Fmt.{digits_is_IsNumeral}
use Rattle.std.proofs.Math.Nat.{pow-succ'}
use Rattle.std.specs.Char.{is_digit, is_ascii_digit, digit_value}
use Rattle.std.specs.Fmt.{decimal, digits, digits_onto, digit_glyph}
use Rattle.std.specs.Str.Parse.{AllDigits, IsNumeral, digits_value, digits_value_after}
use Rattle.lalrpop_lexer_pattern.specs.Sets.{is_scalar}
use Rattle.lalrpop_lexer_regex.specs.Outcome.{after_at}
use Rattle.lalrpop_lexer_regex.specs.Numbers.{hex_from, hex_to_brace, scalar_at}
use Rattle.lalrpop_lexer_regex.specs.Counts.{decimal_from, count_at}

-- a number has as many digits as its size asks for
length-digits_onto : (k j n : ℕ) (acc : List ℕ) → n < 16 * 16 ^ j
    → length (digits_onto k 16 true n acc) ≤ suc j + length acc
length-digits_onto zero j n acc h = omega arith
length-digits_onto (suc k) zero n acc h = let e : (n / 16 == 0) ≡ true = grind (arith, nat_tests) in rw e (omega arith)
length-digits_onto (suc k) (suc j) n acc h = elim (cases_Bool (n / 16 == 0)) [
  | inl e ↦ rw e (omega arith)
  | inr e ↦
      let small : n / 16 < 16 * 16 ^ j = omega (arith, pow-succ' 16 j) in
      rw e (omega (arith, length-digits_onto k j (n / 16) (digit_glyph true (n % 16) ∷ acc) small))
]

-- a character's number has at most six digits
length-digits : (n : ℕ) → n ≤ 0x10_FFFF → length (digits 16 true n) ≤ 6
unfolding digits
length-digits n h = omega (arith, length-digits_onto 64 5 n [] (omega arith))

-- the digits that follow make a number no less
value_grows_16 : (v : ℕ) (ds : List ℕ) → v ≤ digits_value_after 16 v ds
value_grows_16 v [] = omega arith
value_grows_16 v (c ∷ ds) = omega (arith, value_grows_16 (v * 16 + digit_value c) ds)

value_grows_10 : (v : ℕ) (ds : List ℕ) → v ≤ digits_value_after 10 v ds
value_grows_10 v [] = omega arith
value_grows_10 v (c ∷ ds) = omega (arith, value_grows_10 (v * 10 + digit_value c) ds)

-- a hexadecimal digit isn't a brace
no_brace : (c : ℕ) → digit_value c < 16 → (c == 125) ≡ false
no_brace c h = grind (arith, nat_tests)

is_hex : (c : ℕ) → digit_value c < 16 → is_digit c 16 ≡ true
is_hex c h = grind (arith, nat_tests)

is_step : (v d : ℕ) → v * 16 + d ≤ 0x10_FFFF → min (16 * v + d) 0x11_0000 ≡ v * 16 + d
is_step v d h = omega arith

-- digits in front of a brace are read as their number
hex_read : (ds : List ℕ) (k v n : ℕ) (t : List ℕ) → AllDigits 16 ds → length ds ≤ k → digits_value_after 16 v ds ≡ n
    → n ≤ 0x10_FFFF → hex_to_brace k v (ds ++ 125 ∷ t) ≡ Ok (n, t)
hex_read [] k v n t all fit is small = rw is refl
hex_read (c ∷ ds) zero v n t all fit is small = absurd (omega arith)
hex_read (c ∷ ds) (suc k) v n t all fit is small =
    let grows : v * 16 + digit_value c ≤ 0x10_FFFF = omega (arith, value_grows_16 (v * 16 + digit_value c) ds, is) in
    let some : (suc k == 0) ≡ false = grind (arith, nat_tests) in
    let less : suc k - 1 ≡ k = omega arith in
    rw (no_brace c all.0, some, is_hex c all.0, less, is_step v (digit_value c) grows)
    (hex_read ds k (v * 16 + digit_value c) n t all.1 (omega arith) is small)

no_more : (v : ℕ) (t : List ℕ) → hex_from 0 v t ≡ Ok (v, t)
no_more v [] = refl
no_more v (c ∷ t) = refl

braces_read : (ds : List ℕ) (left n : ℕ) (t : List ℕ) → IsNumeral 16 ds → length ds ≤ 6 → digits_value 16 ds ≡ n
    → is_scalar n ≡ true → scalar_at left 2 (123 ∷ (ds ++ 125 ∷ t)) ≡ Ok (n, t)
braces_read [] left n t h fit is scalar = absurd (omega (arith, h.0))
braces_read (c ∷ ds) left n t h fit is scalar =
    let small : n ≤ 0x10_FFFF = grind (arith, nat_tests) in
    let grows : 0 * 16 + digit_value c ≤ 0x10_FFFF = omega (arith, value_grows_16 (0 * 16 + digit_value c) ds, is) in
    rw (
      is_hex c h.1.0,
      is_step 0 (digit_value c) grows,
      no_more (0 * 16 + digit_value c) (ds ++ 125 ∷ t),
      hex_read ds 7 (0 * 16 + digit_value c) n t h.1.1 (omega arith) is small,
      scalar,
    ) refl

-- a scalar value in braces is read as itself
pub scalar_read : (left n : ℕ) (t : List ℕ) → is_scalar n ≡ true
    → scalar_at left 2 (123 ∷ (digits 16 true n ++ 125 ∷ t)) ≡ Ok (n, t)
scalar_read left n t scalar =
    let small : n ≤ 0x10_FFFF = grind (arith, nat_tests) in
    let fits : n < 16 ^ 64 = omega arith in
    let numeral = digits_is_IsNumeral 16 true (lit≤ tt) (lit≤ tt) n fits in
    braces_read (digits 16 true n) left n t numeral.0 (length-digits n small) numeral.1 scalar

-- a decimal digit is one in ASCII
is_decimal : (c : ℕ) → digit_value c < 10 → is_ascii_digit c ≡ true
is_decimal c h = grind (arith, nat_tests)

decimal_value : (c : ℕ) → digit_value c < 10 → c - 48 ≡ digit_value c
decimal_value c h = grind (arith, nat_tests)

is_count_step : (v d : ℕ) → v * 10 + d ≤ 1000 → min (10 * v + d) 1001 ≡ v * 10 + d
is_count_step v d h = omega arith

-- digits in front of something else are read as their number
decimal_read : (ds : List ℕ) (v n c : ℕ) (t : List ℕ) → AllDigits 10 ds → digits_value_after 10 v ds ≡ n → n ≤ 1000
    → is_ascii_digit c ≡ false → decimal_from v (ds ++ c ∷ t) ≡ (n, c ∷ t)
decimal_read [] v n c t all is small stop = rw (stop, is) refl
decimal_read (d ∷ ds) v n c t all is small stop =
    let grows : v * 10 + digit_value d ≤ 1000 = omega (arith, value_grows_10 (v * 10 + digit_value d) ds, is) in
    rw (is_decimal d all.0, decimal_value d all.0, is_count_step v (digit_value d) grows)
    (decimal_read ds (v * 10 + digit_value d) n c t all.1 is small stop)

numeral_read : (ds : List ℕ) (n c : ℕ) (t : List ℕ) → IsNumeral 10 ds → digits_value 10 ds ≡ n → n ≤ 1000
    → is_ascii_digit c ≡ false → count_at (ds ++ c ∷ t) ≡ Ok (n, c ∷ t)
numeral_read [] n c t h is small stop = absurd (omega (arith, h.0))
numeral_read (d ∷ ds) n c t h is small stop =
    let within : nat_lt 1000 n ≡ false = grind (arith, nat_tests) in
    let front : d - 48 ≡ 0 * 10 + digit_value d = omega (arith, decimal_value d h.1.0) in
    rw (is_decimal d h.1.0, front, decimal_read ds (0 * 10 + digit_value d) n c t h.1.1 is small stop, within) refl

-- a count in front of something else is read as itself
pub count_read : (n c : ℕ) (t : List ℕ) → n ≤ 1000 → is_ascii_digit c ≡ false
    → count_at (decimal n ++ c ∷ t) ≡ Ok (n, c ∷ t)
count_read n c t small stop =
    let fits : n < 10 ^ 64 = omega arith in
    let numeral = digits_is_IsNumeral 10 false (lit≤ tt) (lit≤ tt) n fits in
    numeral_read (digits 10 false n) n c t numeral.0 numeral.1 small stop

numeral_no_brace : (ds t : List ℕ) → IsNumeral 10 ds → after_at 125 (ds ++ t) ≡ None
numeral_no_brace [] t h = absurd (omega (arith, h.0))
numeral_no_brace (d ∷ ds) t h = let digit : digit_value d < 16 = omega (arith, h.1.0) in rw (no_brace d digit) refl

-- a count doesn't begin with a brace
pub count_no_brace : (n : ℕ) (t : List ℕ) → n ≤ 1000 → after_at 125 (decimal n ++ t) ≡ None
count_no_brace n t small =
    let fits : n < 10 ^ 64 = omega arith in
    numeral_no_brace (digits 10 false n) t (digits_is_IsNumeral 10 false (lit≤ tt) (lit≤ tt) n fits).0
