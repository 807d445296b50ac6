-- Characters by their numbers. One above the greatest that counts stands for all that are greater.
use Rattle.std.specs.Prelude.{ℕ, ◌+◌, ◌-◌, ◌*◌, min, ◌==◌, List, [], ◌∷◌, Ok, Err, if◌then◌else◌}
use Rattle.std.specs.Char.{is_digit, digit_value}
use Rattle.lalrpop_lexer_pattern.specs.Sets.{is_scalar}
use Rattle.lalrpop_lexer_regex.specs.Outcome.{Reading, syntax_fault, ◌>>=◌}
use Rattle.lalrpop_lexer_regex.specs.declared.classes.fault.PatternFaultKind.TheVariants.{BadRange}

-- a hexadecimal digit goes on with a number, up to the first above Unicode
abbrev pub hex_step : ℕ → ℕ → ℕ
hex_step v c = min (16 * v + digit_value c) 0x11_0000

-- k hexadecimal digits go on with a number
abbrev pub hex_from : ℕ → ℕ → List ℕ → Reading ℕ
hex_from k v [] = if k == 0 then Ok (v, []) else syntax_fault []
hex_from k v (c ∷ t) = if k == 0 then Ok (v, c ∷ t) else
    (if is_digit c 16 then hex_from (k - 1) (hex_step v c) t else syntax_fault (c ∷ t))

-- up to k hexadecimal digits go on with a number, and a brace closes it
abbrev pub hex_to_brace : ℕ → ℕ → List ℕ → Reading ℕ
hex_to_brace k v [] = syntax_fault []
hex_to_brace k v (c ∷ t) =
    if c == 125 then Ok (v, t)
    else (if k == 0 then syntax_fault (c ∷ t) else
    (if is_digit c 16 then hex_to_brace (k - 1) (hex_step v c) t else syntax_fault (c ∷ t)))

-- one to eight digits in braces, or k digits
abbrev pub hex_at : ℕ → List ℕ → Reading ℕ
hex_at k [] = hex_from k 0 []
hex_at k (c ∷ t) = if c == 123 then (hex_from 1 0 t >>= λ x. hex_to_brace 7 x.0 x.1) else hex_from k 0 (c ∷ t)

-- the character with a number
abbrev pub scalar_at : ℕ → ℕ → List ℕ → Reading ℕ
scalar_at left k t = hex_at k t >>= λ x. if is_scalar x.0 then Ok x else Err (BadRange, left)
