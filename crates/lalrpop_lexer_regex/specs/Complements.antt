-- Sets of characters as a pattern writes them, and their complements, by the characters that they match.
use Rattle.std.specs.Prelude.{◌≡◌, ◌↔◌, ◌≤◌, ℕ, Bool, true, false, not, ◌==◌, ◌&&◌, List, [], ◌∷◌}
use Rattle.std.specs.Prelude.{◌++◌, codes, Ok, IfSome}
use Rattle.unicode.specs.Lookup.{by_name}
use Rattle.unicode.specs.Loose.{normalize}
use Rattle.unicode.specs.Sets.{in_set}
use Rattle.lalrpop_lexer_pattern.specs.Matches.{Pattern}
use Rattle.lalrpop_lexer_pattern.specs.Ranges.{InRanges}
use Rattle.lalrpop_lexer_pattern.specs.Sets.{is_scalar}
use Rattle.lalrpop_lexer_pattern.specs.declared.class.Range.{Range}
use Rattle.lalrpop_lexer_regex.specs.Regex.{whole_pattern}
use Rattle.lalrpop_lexer_regex.specs.Printing.{ranges_text}

-- the text is read as the class of the code points that pass the test
pub record IsReadAsTest (text : List ℕ) (test : ℕ → Bool) : Type 0 where
  pub ranges : List Range
  pub read : whole_pattern text ≡ Ok (Pattern.class ranges)
  pub members : (c : ℕ) → InRanges ranges c ↔ ((c ≤ 0x10_FFFF) × (test c ≡ true))

-- the text is read as the class of the scalar values that fail the test
pub record IsReadAsRest (text : List ℕ) (test : ℕ → Bool) : Type 0 where
  pub ranges : List Range
  pub read : whole_pattern text ≡ Ok (Pattern.class ranges)
  pub members : (c : ℕ) → InRanges ranges c ↔ ((is_scalar c ≡ true) × (test c ≡ false))

-- the ranges are not empty, and their ends are scalar values
abbrev pub ArePrinted : List Range → Type 0
ArePrinted [] = Unit {0}
ArePrinted (r ∷ rs) = (is_scalar r.start ≡ true) × (is_scalar r.end ≡ true) × (r.start ≤ r.end) × ArePrinted rs

-- a class that begins with a caret
abbrev pub caret_text : List Range → List ℕ
caret_text rs = codes "[^" ++ ranges_text rs ++ codes "]"

-- a backslash and a letter
abbrev pub letter_text : ℕ → List ℕ
letter_text letter = 92 ∷ letter ∷ []

-- a backslash, a letter, and a name in braces
abbrev pub property_text : ℕ → List ℕ → List ℕ
property_text letter name = 92 ∷ letter ∷ codes "{" ++ name ++ codes "}"

-- no closing brace and no equals sign stands in the name
abbrev pub is_plain_name : List ℕ → Bool
is_plain_name [] = true
is_plain_name (c ∷ cs) = (not (c == 125) && not (c == 61)) && is_plain_name cs

-- the name of a property stands for the code points that have it, and its complement for the scalar values that don't
pub record IsPropertyReadAs (name : List ℕ) (test : ℕ → Bool) : Type 0 where
  pub itself : IsReadAsTest (property_text 112 name) test
  pub rest : IsReadAsRest (property_text 80 name) test

abbrev pub IsNameRead : List ℕ → Type 0
IsNameRead name = IfSome (by_name (normalize name)) (λ s. IsPropertyReadAs name (in_set s))
