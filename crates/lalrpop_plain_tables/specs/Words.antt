-- Words of a line, and which of them spell symbols: for the contracts of reading lines.
use Rattle.std.specs.Prelude.{ℕ, ◌<◌, ◌≤◌, ◌-◌, ◌≡◌, ◌==◌, ◌⊎◌, ◌&&◌, ◌||◌, suc}
use Rattle.std.specs.Prelude.{if◌then◌else◌, nat_lt, IsTrue, Some, Bool}
use Rattle.std.specs.Prelude.{List, [], ◌∷◌, drop, length, slice_index, take}
use Rattle.std.specs.Char.{is_ascii_alphanumeric}
use Rattle.std.specs.List.{list_all}
use Rattle.serde_json.specs.Data.{string}
use Rattle.serde_json.specs.Read.{read}
use Rattle.lalrpop_plain_tables.specs.declared.lines.words.Quotes.{Quotes}
use Rattle.lalrpop_plain_tables.specs.declared.lines.words.Quotes.TheVariants.{Escaped, Inside, Outside}

-- whether what follows a character stands in quotes: a mark opens them, and the next mark that no backslash escapes closes them
abbrev pub quotes_behind : Quotes → ℕ → Quotes
quotes_behind Outside c = if c == 34 then Inside else Outside
quotes_behind Inside c = if c == 34 then Outside else (if c == 92 then Escaped else Inside)
quotes_behind Escaped c = Inside

-- the same behind a text
abbrev pub quotes_after : Quotes → List ℕ → Quotes
quotes_after q [] = q
quotes_after q (c ∷ text) = quotes_after (quotes_behind q c) text

-- a blank outside of quotes
pub record IsFreeBlank (text : List ℕ) (at : ℕ) : Type 0 where
  pub within : at < length text
  pub blank : slice_index text at ≡ 32
  pub free : quotes_after Outside (take at text) ≡ Outside

-- a word stands from the one place to the other: between two free blanks, or the ends of the text, with none inside
pub record IsWordAt (text : List ℕ) (from to : ℕ) : Type 0 where
  pub some : from < to
  pub within : to ≤ length text
  pub begins : (k : ℕ) → suc k ≡ from → IsFreeBlank text k
  pub ends : to < length text → IsFreeBlank text to
  pub whole : (k : ℕ) → from ≤ k → k < to → IsFreeBlank text k → ⊥

-- it is one of the words of the text
pub record IsWordOf (text word : List ℕ) : Type 0 where
  pub from : ℕ
  pub to : ℕ
  pub at : IsWordAt text from to
  pub is : word ≡ take (to - from) (drop from text)

-- a name: letters, digits and underscores, at least one
abbrev pub is_name_byte : ℕ → Bool
is_name_byte b = is_ascii_alphanumeric b || b == 95

abbrev pub is_name_text : List ℕ → Bool
is_name_text word = nat_lt 0 (length word) && list_all is_name_byte word

-- a text in quotes, as JSON spells texts
abbrev pub IsQuotedText : List ℕ → Type 0
IsQuotedText word = (slice_index word 0 ≡ 34) × ((text : List ℕ) × (read word ≡ Some (string text)))

-- the word spells a symbol: a name or a quoted terminal
abbrev pub IsSymbolText : List ℕ → Type 0
IsSymbolText word = IsTrue (is_name_text word) ⊎ IsQuotedText word
