-- How the rules of a grammar are read.
use Rattle.std.specs.Prelude.{ℕ, List, [], ◌∷◌, Result, Ok, Err, Option, Some, None, if◌then◌else◌, option_and_then}
use Rattle.std.specs.Prelude.{unwrap_or}
use Rattle.serde_json.specs.Find.{as_str, get}
use Rattle.lalrpop_grammar_symbols.specs.declared.names.NonterminalString.{NonterminalString}
use Rattle.lalrpop_grammar_symbols.specs.declared.span.Span.{Span}
use Rattle.lalrpop_grammar.specs.declared.nonterminal.NonterminalData.{NonterminalData}
use Rattle.lalrpop_grammar.specs.declared.nonterminal.Visibility.{Visibility}
use Rattle.lalrpop_grammar.specs.declared.nonterminal.Visibility.TheVariants as visible
use Rattle.lalrpop_grammar.specs.declared.types.type_ref.TypeRef.{TypeRef}
use Rattle.serde_json.specs.Data.{Data}
use Rattle.lalrpop_json_values.specs.declared.fault.Fault.{Fault}
use Rattle.lalrpop_json_values.specs.declared.fault.FaultKind.TheVariants as fault
use Rattle.lalrpop_json_values.specs.declared.form.Form.{Form}
use Rattle.lalrpop_json_values.specs.declared.form.Form.TheVariants as form
use Rattle.lalrpop_json_values.specs.declared.key.Key.{Key}
use Rattle.lalrpop_json_values.specs.declared.key.Key.TheVariants as key
use Rattle.lalrpop_json_values.specs.declared.word.Word.TheVariants as word
use Rattle.lalrpop_json_values.specs.Forms.{form_by_key}
use Rattle.lalrpop_json_values.specs.Gives.{◌>>=◌, here}
use Rattle.lalrpop_json_values.specs.Key.{key_text}
use Rattle.lalrpop_json_values.specs.Lists.{list_at}
use Rattle.lalrpop_json_values.specs.Objects.{field_at, keys_at}
use Rattle.lalrpop_json_values.specs.Scalars.{is_word, name_at, optional, span_at, text_at, word_at}
use Rattle.lalrpop_json_symbols.specs.Attributes.{attribute_at}
use Rattle.lalrpop_json_symbols.specs.Types.{type_at}
use Rattle.lalrpop_json_items.specs.Alternatives.{alternatives_at}

-- ---- visibilities

abbrev pub visibility_of : List ℕ → Result Visibility Fault
visibility_of t = if is_word word.Pub t then Ok visible.Pub else
    (if is_word word.Priv t then Ok visible.Priv else Err (here fault.WrongShape))

unfoldable pub pub_in_at : Data → Result Visibility Fault
pub_in_at d = do
  _ ← keys_at (key.PubIn ∷ []) d
  path ← field_at key.PubIn text_at d
  Ok (visible.PubIn path)

abbrev pub visibility_rows : List (Key × Form)
visibility_rows = (key.PubIn, form.PubIn) ∷ []

abbrev pub visibility_by : Option Form → Data → Result Visibility Fault
visibility_by (Some form.PubIn) d = pub_in_at d
visibility_by _ d = Err (here fault.WrongShape)

-- a word, or an object
abbrev pub visibility_from : Option (List ℕ) → Data → Result Visibility Fault
visibility_from (Some t) d = visibility_of t
visibility_from None d = visibility_by (form_by_key visibility_rows d) d

unfoldable pub visibility_at : Data → Result Visibility Fault
visibility_at d = visibility_from (as_str d) d

-- ---- rules

unfoldable pub parameter_at : Data → Result NonterminalString Fault
parameter_at d = do
  name ← name_at d
  Ok (record { 0 = name })

-- the name that stands in a rule, to which its alternatives belong
unfoldable pub name_in : Data → List ℕ
name_in d = unwrap_or (option_and_then as_str (get (key_text key.Name) d)) []

-- a rule's name and its place in the text
unfoldable pub name_and_span_at : Data → Result (List ℕ × Span) Fault
name_and_span_at d = do
  _ ← field_at key.Kind (word_at word.Rule) d
  name ← field_at key.Name name_at d
  span ← field_at key.Span span_at d
  Ok (name, span)

-- a rule's declared type, and who may use the rule
unfoldable pub declaration_at : Data → Result (Option TypeRef × Visibility) Fault
declaration_at d = do
  declared ← field_at key.DeclaredType (optional type_at) d
  visibility ← field_at key.Visibility visibility_at d
  Ok (declared, visibility)

unfoldable pub rule_at : Data → Result NonterminalData Fault
rule_at d = do
  _ ← keys_at
      (key.Alternatives ∷ key.Args ∷ key.Attributes ∷ key.Kind ∷ key.Name ∷ key.Span ∷ key.DeclaredType ∷ key.Visibility ∷
      []) d
  alternatives ← field_at key.Alternatives (alternatives_at (name_in d)) d
  args ← field_at key.Args (list_at (λ _. parameter_at)) d
  attributes ← field_at key.Attributes (list_at (λ _. attribute_at)) d
  _ ← field_at key.Kind (word_at word.Rule) d
  name ← field_at key.Name name_at d
  span ← field_at key.Span span_at d
  declared ← field_at key.DeclaredType (optional type_at) d
  visibility ← field_at key.Visibility visibility_at d
  Ok (record {
    visibility = visibility;
    name = record { 0 = name };
    attributes = attributes;
    span = span;
    args = args;
    type_decl = declared;
    alternatives = alternatives;
  })
