-- Counts of a repetition. One above the greatest stands for all that are greater.
use Rattle.std.specs.Prelude.{ℕ, ◌+◌, ◌-◌, ◌*◌, min, nat_lt, List, [], ◌∷◌, length, Ok, Err, if◌then◌else◌}
use Rattle.std.specs.Char.{is_ascii_digit}
use Rattle.lalrpop_lexer_regex.specs.Outcome.{Reading, syntax_fault}
use Rattle.lalrpop_lexer_regex.specs.declared.classes.fault.PatternFaultKind.TheVariants.{Unsupported}

-- decimal digits at the front go on with a number, up to 1,001
abbrev pub decimal_from : ℕ → List ℕ → ℕ × List ℕ
decimal_from v [] = (v, [])
decimal_from v (c ∷ t) = if is_ascii_digit c then decimal_from (min (10 * v + (c - 48)) 1001) t else (v, c ∷ t)

abbrev pub checked_count : ℕ → ℕ × List ℕ → Reading ℕ
checked_count left x = if nat_lt 1000 x.0 then Err (Unsupported, left) else Ok x

-- a count: a decimal number, at most 1,000
abbrev pub count_at : List ℕ → Reading ℕ
count_at [] = syntax_fault []
count_at (c ∷ t) = if is_ascii_digit c then checked_count (length (c ∷ t)) (decimal_from (c - 48) t) else syntax_fault (c ∷ t)
