-- That a text is read back as a pattern.
use Rattle.std.specs.Prelude.{◌≡◌, ◌↔◌, ℕ, List, Ok}
use Rattle.lalrpop_lexer_pattern.specs.Matches.{Pattern, Matches}
use Rattle.lalrpop_lexer_pattern.specs.Refused.{refusal}
use Rattle.lalrpop_lexer_regex.specs.Regex.{whole_pattern}
use Rattle.lalrpop_lexer_regex.specs.Printable.{IsPrintedInFull}

-- The text is read as a pattern that matches the same words. Where nothing was left out of the text, both are also refused an
-- automaton for the same cause, or neither: the first name, lazy repetition or place in the text, in the order of the tree.
pub record IsReadBackAs (text : List ℕ) (p : Pattern) : Type 0 where
  pub pattern : Pattern
  pub read : whole_pattern text ≡ Ok pattern
  pub same_words : (w : List ℕ) → Matches pattern w ↔ Matches p w
  pub same_refusal : IsPrintedInFull p → refusal pattern ≡ refusal p
