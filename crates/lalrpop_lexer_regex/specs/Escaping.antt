-- Text in which each special character is escaped, and what it is to be read as one word.
use Rattle.std.specs.Prelude.{◌≡◌, ◌↔◌, ℕ, Bool, not, ◌==◌, ◌||◌, ◌&&◌, List, [], ◌∷◌, Ok}
use Rattle.std.specs.Prelude.{if◌then◌else◌}
use Rattle.std.specs.Char.{is_ascii_punctuation}
use Rattle.lalrpop_lexer_pattern.specs.Matches.{Pattern, Matches}
use Rattle.lalrpop_lexer_regex.specs.Regex.{whole_pattern}

-- ASCII punctuation, but for the two angles, which have no escape and need none
abbrev pub needs_escape : ℕ → Bool
needs_escape c = is_ascii_punctuation c && not ((c == 60) || (c == 62))

-- a backslash before each such character
abbrev pub escape_word : List ℕ → List ℕ
escape_word [] = []
escape_word (c ∷ t) = if needs_escape c then 92 ∷ c ∷ escape_word t else c ∷ escape_word t

-- the text is read as a pattern that matches what the word's own pattern matches: the word, and nothing else
pub record IsReadAs (text word : List ℕ) : Type 0 where
  pub pattern : Pattern
  pub read : whole_pattern text ≡ Ok pattern
  pub same : (w : List ℕ) → Matches pattern w ↔ Matches (Pattern.literal word) w
