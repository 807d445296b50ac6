-- The items of a class: characters, ranges, escapes and POSIX classes.
use Rattle.std.specs.Prelude.{ℕ, Bool, false, ◌==◌, ◌||◌, ◌&&◌, nat_lt, List, [], ◌∷◌, length, Option, Some, None}
use Rattle.std.specs.Prelude.{Result, Ok, Err, option_and_then, if◌then◌else◌}
use Rattle.std.specs.Option.{option_map_or}
use Rattle.lalrpop_lexer_pattern.specs.declared.class.Range.{Range}
use Rattle.lalrpop_lexer_pattern.specs.Sets.{in_ranges, ranges_of}
use Rattle.lalrpop_lexer_regex.specs.Outcome.{Fault, Reading, syntax_fault, ◌>>=◌, after_at}
use Rattle.lalrpop_lexer_regex.specs.Escapes.{escaped_character_at}
use Rattle.lalrpop_lexer_regex.specs.SetEscapes.{is_set_letter, escaped_set_at, finished_set}
use Rattle.lalrpop_lexer_regex.specs.Posix.{range, posix_ranges}
use Rattle.lalrpop_lexer_regex.specs.declared.classes.fault.PatternFaultKind.TheVariants.{BadRange, UnknownName}

abbrev pub begins_with : ℕ → List ℕ → Bool
begins_with mark [] = false
begins_with mark (c ∷ t) = c == mark

-- the first of `&&`, `--` or `~~`, and the text after it
abbrev pub is_operator : ℕ → List ℕ → Bool
is_operator c t = ((c == 38) || (c == 45) || (c == 126)) && begins_with c t

-- the characters from one to another
unfoldable pub range_set : ℕ → ℕ → List Range
range_set a b = ranges_of (in_ranges (range a b ∷ []))

-- the text after the dash of a range: a dash in front of `]` or another dash is none
unfoldable pub begins_range : List ℕ → Option (List ℕ)
begins_range t = option_and_then (λ r. if begins_with 93 r || begins_with 45 r then None else Some r) (after_at 45 t)

-- the end of a range: an escape of one character, or any character but `[`, `]` and `-`
unfoldable pub range_end_at : List ℕ → Reading ℕ
range_end_at [] = syntax_fault []
range_end_at (c ∷ t) =
    if c == 92 then escaped_character_at (length (c ∷ t)) t
    else (if (c == 91) || (c == 93) || (c == 45) then syntax_fault (c ∷ t) else Ok (c, t))

-- a character, or the range that it begins
unfoldable pub character_or_range_at : ℕ → ℕ → List ℕ → Reading (List Range)
character_or_range_at left c t =
    option_map_or (λ r. range_end_at r >>= λ x. if nat_lt x.0 c then Err (BadRange, left) else Ok (range_set c x.0, x.1)) (begins_range t)
    (Ok (range_set c c, t))

-- after a backslash: a set, or a character, which may begin a range
unfoldable pub escaped_item_at : ℕ → Bool → List ℕ → Reading (List Range)
escaped_item_at left fold [] = syntax_fault []
escaped_item_at left fold (c ∷ t) =
    if is_set_letter c then escaped_set_at left fold c t else
    (escaped_character_at left (c ∷ t) >>= λ x. character_or_range_at left x.0 x.1)

-- the set of a POSIX class
unfoldable pub posix_item : ℕ → Bool → Bool → List ℕ → Result (List Range) Fault
posix_item left fold negated name =
    option_map_or (λ rs. Ok (finished_set fold negated (ranges_of (in_ranges rs)))) (posix_ranges name) (Err (UnknownName, left))
