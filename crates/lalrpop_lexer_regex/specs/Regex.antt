-- A whole text as a pattern, and what reading it answers.
use Rattle.std.specs.Prelude.{◌≡◌, ℕ, ◌-◌, false, List, [], ◌∷◌, length, take, Result, Ok, Err, encode_utf8_all}
use Rattle.std.specs.Str.{chars}
use Rattle.lalrpop_lexer_pattern.specs.Matches.{Pattern}
use Rattle.lalrpop_lexer_pattern.specs.Meaning.{meaning}
use Rattle.lalrpop_lexer_pattern.specs.declared.tree.Hir.{Hir}
use Rattle.lalrpop_lexer_regex.specs.declared.error.RegexError.{RegexError}
use Rattle.lalrpop_lexer_regex.specs.declared.error.RegexError.TheVariants as error
use Rattle.lalrpop_lexer_regex.specs.declared.classes.fault.PatternFaultKind.{PatternFaultKind}
use Rattle.lalrpop_lexer_regex.specs.declared.classes.fault.PatternFaultKind.TheVariants as kind
use Rattle.lalrpop_lexer_regex.specs.Outcome.{Fault, syntax_fault, ◌>>=◌}
use Rattle.lalrpop_lexer_regex.specs.Patterns.{pattern_at}

-- nothing is left
abbrev pub pattern_at_end : Pattern → List ℕ → Result Pattern Fault
pattern_at_end p [] = Ok p
pattern_at_end p (c ∷ t) = syntax_fault (c ∷ t)

-- the pattern that the characters are, with no flag at first, and up to 250 groups and classes in one another
unfoldable pub whole_pattern : List ℕ → Result Pattern Fault
whole_pattern t = pattern_at 250 (record { insensitive = false; dot_all = false }) t >>= λ x. pattern_at_end x.0 x.1

-- the byte in front of the last characters, so many
abbrev pub fault_byte : List ℕ → ℕ → ℕ
fault_byte cs left = length (encode_utf8_all (take (length cs - left) cs))

-- the text has a fault of the kind at the byte
pub record IsRefused (text : List ℕ) (k : PatternFaultKind) (at : ℕ) : Type 0 where
  pub left : ℕ
  pub fault : whole_pattern (chars text) ≡ Err (k, left)
  pub place : at ≡ fault_byte (chars text) left

-- The tree is that of the text, or the error is its fault, unless memory ran out.
abbrev pub Answers : List ℕ → Result Hir RegexError → Type 0
Answers text (Ok tree) = whole_pattern (chars text) ≡ Ok (meaning tree)
Answers text (Err (error.Syntax at)) = IsRefused text kind.Syntax at
Answers text (Err (error.Unsupported at)) = IsRefused text kind.Unsupported at
Answers text (Err (error.BadRange at)) = IsRefused text kind.BadRange at
Answers text (Err (error.UnknownName at)) = IsRefused text kind.UnknownName at
Answers text (Err error.Memory) = Unit {0}
