-- The Unicode property that a pattern names, and its characters.
use Rattle.std.specs.Prelude.{ℕ, ◌+◌, Bool, ◌==◌, ◌&&◌, ◌||◌, List, [], ◌∷◌, length, take, drop, position}
use Rattle.std.specs.Prelude.{slice_index, Option, Result, Ok, Err, option_map, if◌then◌else◌}
use Rattle.std.specs.Option.{option_map_or}
use Rattle.std.specs.Char.{is_ascii_alphabetic}
use Rattle.std.specs.Borrow.{Bor}
use Rattle.unicode.specs.Lookup.{by_name}
use Rattle.unicode.specs.Loose.{normalize}
use Rattle.unicode.specs.Sets.{in_set}
use Rattle.lalrpop_lexer_pattern.specs.Sets.{ranges_of}
use Rattle.lalrpop_lexer_pattern.specs.declared.class.Range.{Range}
use Rattle.lalrpop_lexer_pattern.specs.declared.set.CharacterSet.{CharacterSet}
use Rattle.lalrpop_lexer_regex.specs.Outcome.{Fault, Reading, syntax_fault, ◌>>=◌}
use Rattle.lalrpop_lexer_regex.specs.declared.classes.fault.PatternFaultKind.TheVariants.{Unsupported, UnknownName}

-- the ranges of a set, and the text after it
abbrev pub ranges_read : CharacterSet × Bor (List ℕ) → List Range × List ℕ
ranges_read x = (x.0.ranges.items, x.1.now)

-- the parts before and after the first such character
abbrev pub split_at_first : ℕ → List ℕ → Option (List ℕ × List ℕ)
split_at_first mark t = option_map (λ k. (take k t, drop (k + 1) t)) (position (λ c. c == mark) t)

-- `gc` or `sc`
abbrev pub is_known_key : List ℕ → Bool
is_known_key key = (length key == 2) && ((slice_index key 0 == 103) || (slice_index key 0 == 115)) && (slice_index key 1 == 99)

-- the code points with the property of the name
unfoldable pub set_by_name : ℕ → List ℕ → Result (List Range) Fault
set_by_name left name = option_map_or (λ s. Ok (ranges_of (in_set s))) (by_name (normalize name)) (Err (UnknownName, left))

-- a name, after one of the two keys or alone
unfoldable pub keyed_set : ℕ → List ℕ → Result (List Range) Fault
keyed_set left name =
    option_map_or (λ x. if is_known_key x.0 then set_by_name left x.1 else Err (Unsupported, left)) (split_at_first 61 name)
    (set_by_name left name)

-- a letter, or a name in braces
unfoldable pub property_at : ℕ → List ℕ → Reading (List Range)
property_at left [] = syntax_fault []
property_at left (c ∷ t) =
    if c == 123 then option_map_or (λ x. keyed_set left x.0 >>= λ s. Ok (s, x.1)) (split_at_first 125 t) (syntax_fault [])
    else (if is_ascii_alphabetic c then (keyed_set left (c ∷ []) >>= λ s. Ok (s, t)) else syntax_fault (c ∷ t))
