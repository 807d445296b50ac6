-- How often a piece of a pattern is repeated.
use Rattle.std.specs.Prelude.{ℕ, Bool, true, false, ◌==◌, ◌||◌, nat_lt, List, [], ◌∷◌, length, Option, Some, None, Ok, Err}
use Rattle.std.specs.Prelude.{if◌then◌else◌}
use Rattle.std.specs.Option.{option_map_or}
use Rattle.lalrpop_lexer_regex.specs.Outcome.{Reading, syntax_fault, ◌>>=◌, after_at, closing_at}
use Rattle.lalrpop_lexer_regex.specs.Counts.{count_at}
use Rattle.lalrpop_lexer_regex.specs.declared.classes.fault.PatternFaultKind.TheVariants.{BadRange}

-- one of * + ? {
abbrev pub begins_repeat : ℕ → Bool
begins_repeat c = (c == 42) || (c == 43) || (c == 63) || (c == 123)

-- after `{n,`: `}`, or a number that isn't below n and `}`
unfoldable pub upper_at : ℕ → ℕ → List ℕ → Reading (ℕ × Option ℕ)
upper_at left n t =
    option_map_or (λ r. Ok ((n, None), r)) (after_at 125 t)
    (count_at t >>= λ m. closing_at 125 m.1 >>= λ r. if nat_lt m.0 n then Err (BadRange, left) else Ok ((n, Some m.0), r))

-- after `{`: a number n and `}`, or a comma and what follows it
unfoldable pub bounds_at : ℕ → List ℕ → Reading (ℕ × Option ℕ)
bounds_at left t =
    count_at t >>= λ n. option_map_or (λ r. Ok ((n.0, Some n.0), r)) (after_at 125 n.1) (closing_at 44 n.1 >>= λ r. upper_at left n.0 r)

-- `*`, `+`, `?`, or bounds in braces
unfoldable pub repeat_sign_at : List ℕ → Reading (ℕ × Option ℕ)
repeat_sign_at [] = syntax_fault []
repeat_sign_at (c ∷ t) =
    if c == 42 then Ok ((0, None), t) else
    (if c == 43 then Ok ((1, None), t) else (if c == 63 then Ok ((0, Some 1), t) else bounds_at (length (c ∷ t)) t))

-- whether no question mark comes first, and the text after it
abbrev pub greedy_at : List ℕ → Bool × List ℕ
greedy_at t = option_map_or (λ r. (false, r)) (after_at 63 t) (true, t)

-- the least and the greatest count, and whether the repetition is greedy
unfoldable pub repeats_read : List ℕ → Reading (ℕ × (Option ℕ × Bool))
repeats_read t = repeat_sign_at t >>= λ x. let g = greedy_at x.1 in Ok ((x.0.0, (x.0.1, g.0)), g.1)
