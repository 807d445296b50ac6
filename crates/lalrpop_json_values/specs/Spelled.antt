-- The JSON of small parts: objects, lists, numbers, words and spans.
use Rattle.std.specs.Prelude.{ℕ, ◌+◌, ◌<◌, ◌≤◌, ◌^◌, List, [], ◌∷◌, map, Option, Some, None}
use Rattle.serde_json.specs.Data.{Data, null, number, string, array, object, unsigned, no_items, item, Members, no_members, member}
use Rattle.serde_json.specs.View.{items_of}
use Rattle.lalrpop_grammar_symbols.specs.declared.span.Span.{Span}
use Rattle.lalrpop_json_values.specs.declared.key.Key.{Key}
use Rattle.lalrpop_json_values.specs.declared.word.Word.{Word}
use Rattle.lalrpop_json_values.specs.Key.{key_text}
use Rattle.lalrpop_json_values.specs.Word.{word_text}

abbrev pub members_from : List (Key × Data) → Members
members_from [] = no_members
members_from (m ∷ ms) = member (key_text m.0) m.1 (members_from ms)

abbrev pub object_of : List (Key × Data) → Data
object_of ms = object (members_from ms)

abbrev pub list_json : {A : Type 0} → (A → Data) → List A → Data
list_json spelled xs = array (items_of (map spelled xs))

abbrev pub option_json : {A : Type 0} → (A → Data) → Option A → Data
option_json spelled None = null
option_json spelled (Some x) = spelled x

-- that of what is there, where something is
abbrev pub IfSome : {A : Type 0} → (A → Type 0) → Option A → Type 0
IfSome P None = Unit {0}
IfSome P (Some x) = P x

abbrev pub number_json : ℕ → Data
number_json n = number (unsigned n)

abbrev pub word_json : Word → Data
word_json w = string (word_text w)

abbrev pub span_json : Span → Data
span_json s = array (item (number_json s.0) (item (number_json s.1) no_items))

-- which spans there are
pub record IsSpan (s : Span) : Type 0 where
  pub ordered : s.0 ≤ s.1
  pub limit : s.1 < 2 ^ 32

-- each of a list, from an index on
abbrev pub EachFrom : {A : Type 0} → (ℕ → A → Type 0) → ℕ → List A → Type 0
EachFrom P i [] = Unit {0}
EachFrom P i (x ∷ xs) = P i x × EachFrom P (i + 1) xs
