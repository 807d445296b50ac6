-- When a line is a production, and what may be wrong with a text: for the contracts of reading lines.
use Rattle.std.specs.Prelude.{ℕ, ◌<◌, ◌≤◌, ◌^◌, ◌≡◌, ◌==◌, suc, IsTrue, List, Some, length, slice_get}
use Rattle.std.specs.List.{after_first, before_first, position_or_len}
use Rattle.std.specs.Str.{trim}
use Rattle.std.specs.Str.Lines.{lines}
use Rattle.lalrpop_plain_tables.specs.Words.{IsSymbolText, IsWordOf, is_name_text}
use Rattle.lalrpop_plain_tables.specs.declared.lines.error.LinesError.{LinesError}
use Rattle.lalrpop_plain_tables.specs.declared.lines.error.LinesError.TheVariants.{Line, Memory, TooMany}

-- what stands before the first colon, and what stands behind it
abbrev pub before_colon : List ℕ → List ℕ
before_colon line = before_first (λ b. b == 58) line

abbrev pub behind_colon : List ℕ → List ℕ
behind_colon line = after_first (λ b. b == 58) line

-- each word spells a symbol
abbrev pub AreSymbolWords : List ℕ → Type 0
AreSymbolWords text = (word : List ℕ) → IsWordOf text word → IsSymbolText word

-- a production: a name, a colon, and symbols
pub record IsProductionLine (line : List ℕ) : Type 0 where
  pub colon : position_or_len (λ b. b == 58) line < length line
  pub name : IsTrue (is_name_text (trim (before_colon line)))
  pub symbols : AreSymbolWords (trim (behind_colon line))

-- the line of this number, counted from 1, isn't blank and no production
pub record IsWrongLine (text : List ℕ) (number : ℕ) : Type 0 where
  pub at : ℕ
  pub line : List ℕ
  pub there : slice_get (lines text) at ≡ Some line
  pub number_is : number ≡ suc at
  pub some : 0 < length (trim line)
  pub wrong : IsProductionLine (trim line) → ⊥

-- what is told of a text is so; want of memory may always be told
abbrev pub IsFaultOfLines : List ℕ → LinesError → Type 0
IsFaultOfLines text (Line number) = IsWrongLine text number
IsFaultOfLines text TooMany = 2 ^ 32 < length (lines text)
IsFaultOfLines text Memory = Unit {0}

-- the same of one line, whose number it is, behind so many productions
abbrev pub IsFaultOfLine : List ℕ → ℕ → ℕ → LinesError → Type 0
IsFaultOfLine line number count (Line n) = (n ≡ number) × (IsProductionLine line → ⊥)
IsFaultOfLine line number count TooMany = 2 ^ 32 ≤ count
IsFaultOfLine line number count Memory = Unit {0}

-- the same where the line is a production
abbrev pub IsFaultOfProduction : ℕ → LinesError → Type 0
IsFaultOfProduction count (Line n) = ⊥
IsFaultOfProduction count TooMany = 2 ^ 32 ≤ count
IsFaultOfProduction count Memory = Unit {0}
