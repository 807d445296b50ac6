-- The sets of characters that a backslash begins.
use Rattle.std.specs.Prelude.{ℕ, Bool, ◌==◌, ◌||◌, List, Ok, if◌then◌else◌}
use Rattle.std.specs.Char.{is_ascii_uppercase}
use Rattle.unicode.specs.Perl.{is_word_char, is_digit_char, is_space_char}
use Rattle.lalrpop_lexer_pattern.specs.declared.class.Range.{Range}
use Rattle.lalrpop_lexer_pattern.specs.Sets.{ranges_of, folded_of, complement_of}
use Rattle.lalrpop_lexer_regex.specs.Outcome.{Reading, ◌>>=◌}
use Rattle.lalrpop_lexer_regex.specs.Properties.{property_at}

-- one of d, D, s, S, w, W, p, P
abbrev pub is_set_letter : ℕ → Bool
is_set_letter c = (c == 100) || (c == 68) || (c == 115) || (c == 83) || (c == 119) || (c == 87) || (c == 112) || (c == 80)

-- what shares a simple folding is added first, and the complement taken after that
unfoldable pub finished_set : Bool → Bool → List Range → List Range
finished_set fold negated s = let f = if fold then folded_of s else s in if negated then complement_of f else f

unfoldable pub base_set_at : ℕ → ℕ → List ℕ → Reading (List Range)
base_set_at left c t =
    if (c == 100) || (c == 68) then Ok (ranges_of is_digit_char, t)
    else (if (c == 115) || (c == 83) then Ok (ranges_of is_space_char, t)
    else (if (c == 119) || (c == 87) then Ok (ranges_of is_word_char, t) else property_at left t))

-- the set of a letter, complemented for one in upper case
unfoldable pub escaped_set_at : ℕ → Bool → ℕ → List ℕ → Reading (List Range)
escaped_set_at left fold c t = base_set_at left c t >>= λ x. Ok (finished_set fold (is_ascii_uppercase c) x.0, x.1)
