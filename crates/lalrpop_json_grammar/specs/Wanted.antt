-- What a place of the format asks for, and the forms of its components; the table is in Format.antt.
use Rattle.std.specs.Prelude.{List}
use Rattle.lalrpop_json_values.specs.declared.key.Key.{Key}
use Rattle.lalrpop_json_values.specs.declared.word.Word.{Word}

-- the components of the format: what an object stands for; rules and blocks are items, and stand for themselves alone, too
pub data Component : Type 0 where
  action alternative argument associated attribute condition conversion entry enumeration grammar item literal : Component
  symbol terminal tree type visibility : Component
  rule match_block extern_block : Component

-- what a place asks for: a text, a name, a number, a span, a boolean, `null`, one of some words, a list, the list of a rule's
-- alternatives, `null` or something, a component, one of some words or something
pub data Wanted : Type 0 where
  text name number span flag nothing : Wanted
  word : List Word → Wanted
  list : Wanted → Wanted
  alternatives : Wanted → Wanted
  optional : Wanted → Wanted
  component : Component → Wanted
  word_or : List Word → Wanted → Wanted

-- one form of a component: its keys in byte order, with what stands at each
abbrev pub Layout : Type 0
Layout = List (Key × Wanted)

-- A component has one form, or one of several that its keys tell, or one of several that the word at `kind` tells.
pub data Forms : Type 0 where
  one : Layout → Forms
  by_key : List Layout → Forms
  by_kind : List (Word × Layout) → Forms
