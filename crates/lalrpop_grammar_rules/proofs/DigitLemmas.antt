-- Levels as decimal digits, digit by digit: for the reading of a level.
use Rattle.std.proofs.Common.{◌≡◌, ◌≢◌, ◌≤◌, ◌<◌, ℕ, ◌+◌, ◌-◌, ◌*◌, ◌^◌, Bool, true, false, []}
use Rattle.std.proofs.Common.{◌∷◌, Option, Some, None, refl, ap, sym, ◌∙◌, arith}
use Rattle.std.proofs.lemmas.Bool.{le-leb, lt-leb, lt-ltb, le-ltb, ltb-false}
use Rattle.std.specs.Prelude.{nat_lt, nat_le, ◌&&◌, if◌then◌else◌, option_and_then}
use Rattle.lalrpop_grammar_symbols.specs.Symbols.{Text}
use Rattle.lalrpop_grammar_language.specs.Levels.{digits, level_of}
use Rattle.lalrpop_grammar_rules.specs.Ranks.{next_level}

-- the level that the digits say after the number so far
abbrev pub level_from : ℕ → Text → Option ℕ
level_from n ts = option_and_then (λ m. if nat_lt m (2 ^ 32) then Some m else None) (digits n ts)

-- the level of a text that has a digit is the one that its digits say from 0 on
pub level_first : (t : Text) → t ≢ [] → level_of t ≡ level_from 0 t
level_first [] some = absurd (some refl)
level_first (d ∷ ds) some = refl

module _ (n d : ℕ) where
  -- a digit with which the number stays below 2^32 gives the next number
  pub next_small : 48 ≤ d → d ≤ 57 → n * 10 + (d - 48) < 2 ^ 32 → Some (n * 10 + (d - 48)) ≡ next_level n d
  next_small low high below = rw (le-leb 48 d low, le-leb d 57 high, lt-ltb (n * 10 + (d - 48)) (2 ^ 32) below) refl

  -- a digit with which the number reaches 2^32 gives none
  pub next_large : 48 ≤ d → d ≤ 57 → 2 ^ 32 ≤ n * 10 + (d - 48) → None ≡ next_level n d
  next_large low high above = rw (le-leb 48 d low, le-leb d 57 high, le-ltb (n * 10 + (d - 48)) (2 ^ 32) above) refl

  -- a byte below the digits gives none
  pub next_below : d < 48 → None ≡ next_level n d
  next_below low = rw (lt-leb 48 d low) refl

  -- a byte above the digits gives none
  pub next_above : 57 < d → None ≡ next_level n d
  next_above high = rw (le-leb 48 d (omega (arith, high)), lt-leb d 57 high) refl

too_large_if : (b : Bool) (m : ℕ) (ds : Text) → level_from m ds ≡ None
    → option_and_then (λ m. if nat_lt m (2 ^ 32) then Some m else None) (if b then digits m ds else None) ≡ None
too_large_if true m ds e = e
too_large_if false m ds e = refl

too_large : (ts : Text) (n : ℕ) → 2 ^ 32 ≤ n → level_from n ts ≡ None
too_large [] n large = rw (le-ltb n (2 ^ 32) large) refl
too_large (d ∷ ds) n large =
    too_large_if (nat_le 48 d && nat_le d 57) (n * 10 + (d - 48)) ds (too_large ds (n * 10 + (d - 48)) (omega (arith, large)))

step_if : (b small : Bool) (m : ℕ) (ds : Text) → (small ≡ false → level_from m ds ≡ None)
    → option_and_then (λ m. if nat_lt m (2 ^ 32) then Some m else None) (if b then digits m ds else None)
    ≡ option_and_then (λ k. level_from k ds) (if b then (if small then Some m else None) else None)
step_if true true m ds e = refl
step_if true false m ds e = e refl
step_if false small m ds e = refl

-- one digit more
pub level_step : (n d : ℕ) (ds : Text) → level_from n (d ∷ ds) ≡ option_and_then (λ k. level_from k ds) (next_level n d)
level_step n d ds =
    step_if (nat_le 48 d && nat_le d 57) (nat_lt (n * 10 + (d - 48)) (2 ^ 32)) (n * 10 + (d - 48)) ds
    (λ e. too_large ds (n * 10 + (d - 48)) (large e))
  where
    large : nat_lt (n * 10 + (d - 48)) (2 ^ 32) ≡ false → 2 ^ 32 ≤ n * 10 + (d - 48)
    large e = ltb-false (n * 10 + (d - 48)) (2 ^ 32) e

-- with no digit left, a number below 2^32 is the level
pub small : (n : ℕ) → n < 2 ^ 32 → level_from n [] ≡ Some n
small n low = rw (lt-ltb n (2 ^ 32) low) refl

-- the next number, or none
pub level_on : (n d : ℕ) (ds : Text) (m : ℕ) → Some m ≡ next_level n d → level_from n (d ∷ ds) ≡ level_from m ds
level_on n d ds m e = level_step n d ds ∙ ap (option_and_then (λ k. level_from k ds)) (sym e)

-- where the next byte gives no number, there is no level
pub level_stop : (n d : ℕ) (ds : Text) → None ≡ next_level n d → level_from n (d ∷ ds) ≡ None
level_stop n d ds e = level_step n d ds ∙ ap (option_and_then (λ k. level_from k ds)) (sym e)
