-- The number that a typed getter reads in a text that passed its parser, for the options that are numbers.
use Rattle.std.proofs.Common.{◌==◌, ◌≡◌, ◌∙◌, ◌<◌, ◌^◌, ap, arith, cond, drop, sym, subst, ℕ, Bool, true, false}
use Rattle.std.proofs.Common.{List, [], ◌∷◌, Option, Some, None, refl}
use Rattle.std.specs.Prelude.{Err, Ok, Result, pos, unwrap_or}
use Rattle.std.specs.Str.Parse.{IsNumeral, ParsesUnsigned, digits_value, signed_digits_value, starts_with_minus, without_leading_plus}
use Rattle.std.specs.Str.Parse.{without_leading_sign}
use Rattle.std.proofs.lemmas.Bool.{ne_eqb}
use Rattle.std.proofs.lemmas.Int.{ints}
use Rattle.std.proofs.lemmas.Str.Parse.{digit_from_value}
use Rattle.clap.specs.Lexer.{without_minus}
use Rattle.clap.specs.Matches.{ReadsOne, first_value, one_text}
use Rattle.clap.specs.Values.{IsSignedIn}
use Rattle.clap.specs.declared.parser.matches.Found.{Found}
use Rattle.lalrpop_run_options.proofs.FoundLemmas.{none_to_read}
use Rattle.lalrpop_run_options.specs.Options.{IsNumberOr}

without_minus-cond : (t : List ℕ) → without_minus t ≡ cond (starts_with_minus t) (drop 1 t) t
without_minus-cond [] = refl
without_minus-cond (x ∷ xs) = go (x == 45)
  where
    go : (b : Bool) → unwrap_or (cond b (Some xs) None) (x ∷ xs) ≡ cond b xs (x ∷ xs)
    go true = refl
    go false = refl

no_plus : (ds : List ℕ) → IsNumeral 10 ds → without_leading_plus ds ≡ ds
no_plus [] h = refl
no_plus (d ∷ ds) h =
    let plus : (d == 43) ≡ false = ne_eqb _ _ (λ e. omega (arith, digit_from_value d h.1.0)) in
    ap (λ (b : Bool). drop (cond b 1 0) (d ∷ ds)) plus

-- a text that passed a range from 0 on is read as the number that it writes
pub signed_number : (E : Type 0) (G : List ℕ → Result ℕ E → Type 0) (k high : ℕ) (t : List ℕ) (r : Option ℕ)
    → ReadsOne G (without_minus t) r → ((u : List ℕ) (x : Result ℕ E) → G u x → ParsesUnsigned k 10 u x) → high < 2 ^ k
    → IsSignedIn (pos 0) (pos high) t
    → (n : ℕ) × (r ≡ Some n) × (signed_digits_value 10 t ≡ pos n)
signed_number E G k high t r read only fits passed =
    go (starts_with_minus t) refl r (subst (λ (u : List ℕ). ReadsOne G u r) (without_minus-cond t) read)
  where
    go : (b : Bool) → starts_with_minus t ≡ b → (o : Option ℕ) → ReadsOne G (cond (starts_with_minus t) (drop 1 t) t) o
        → (n : ℕ) × (o ≡ Some n) × (signed_digits_value 10 t ≡ pos n)
    go true minus (Some v) h =
        let low_ok = rw minus at passed.2 in
        let numeral : IsNumeral 10 (drop 1 t) = rw minus at passed.0 in
        let parsed = only (drop 1 t) (Ok v) (rw minus at h) in
        let is : v ≡ digits_value 10 (drop 1 t) = parsed.1 ∙ ap (digits_value 10) (no_plus (drop 1 t) numeral) in
        (v, refl, rw minus (omega (arith, ints)))
    go true minus None h =
        let low_ok = rw minus at passed.2 in
        let numeral : IsNumeral 10 (drop 1 t) = rw minus at passed.0 in
        let same = no_plus (drop 1 t) numeral in
        let small : digits_value 10 (drop 1 t) < 2 ^ k = omega (arith, ints) in
        absurd (only (drop 1 t) (Err h.0) (rw minus at h.1) (rw same numeral, rw same small))
    go false minus (Some v) h =
        let parsed = only t (Ok v) (rw minus at h) in
        (v, refl, rw minus (ap pos (sym parsed.1)))
    go false minus None h =
        let low_ok = rw minus at passed.2 in
        let high_ok = rw minus at passed.3 in
        let numeral = rw minus at passed.0 in
        absurd (only t (Err h.0) (rw minus at h.1) (numeral, omega (arith, ints)))

-- an option that is a number, from what was read of its text
pub number_or : (f : Found) (id : List ℕ) (usual : ℕ) (r : Option ℕ) → (one_text f id ≡ None → r ≡ None)
    → ((t : List ℕ) → first_value f id ≡ Some t → (n : ℕ) × (r ≡ Some n)
    × (IsNumeral 10 (without_leading_sign t) × (signed_digits_value 10 t ≡ pos n)))
    → IsNumberOr usual (first_value f id) (unwrap_or r usual)
number_or f id usual r none some = go (first_value f id) refl
  where
    go : (o : Option (List ℕ)) → first_value f id ≡ o → IsNumberOr usual o (unwrap_or r usual)
    go None e = rw (none (none_to_read f id e)) refl
    go (Some t) e =
        let got = some t e in
        rw got.1 got.2
