-- How attributes are read.
use Rattle.std.specs.Prelude.{ℕ, List, [], ◌∷◌, Result, Ok, Err, Option, Some, is_some, if◌then◌else◌}
use Rattle.serde_json.specs.Find.{as_null}
use Rattle.lalrpop_grammar.specs.declared.types.attribute.Attribute.{Attribute, roll-Attribute}
use Rattle.lalrpop_grammar.specs.declared.types.attribute.AttributeArg.{AttributeArg}
use Rattle.lalrpop_grammar.specs.declared.types.attribute.AttributeArg.TheVariants as args
use Rattle.lalrpop_grammar_symbols.specs.declared.span.Span.{Span}
use Rattle.serde_json.specs.Data.{Data}
use Rattle.lalrpop_json_values.specs.declared.fault.Fault.{Fault}
use Rattle.lalrpop_json_values.specs.declared.fault.FaultKind.TheVariants as fault
use Rattle.lalrpop_json_values.specs.declared.form.Form.{Form}
use Rattle.lalrpop_json_values.specs.declared.form.Form.TheVariants as form
use Rattle.lalrpop_json_values.specs.declared.key.Key.{Key}
use Rattle.lalrpop_json_values.specs.declared.key.Key.TheVariants as key
use Rattle.lalrpop_json_values.specs.Forms.{form_by_key}
use Rattle.lalrpop_json_values.specs.Gives.{◌>>=◌, here}
use Rattle.lalrpop_json_values.specs.Lists.{list_at}
use Rattle.lalrpop_json_values.specs.Nested.{Reader, nested_reader}
use Rattle.lalrpop_json_values.specs.Objects.{field_at, keys_at}
use Rattle.lalrpop_json_values.specs.Scalars.{name_at, span_at, text_at}

abbrev pub attribute_of : Span → List ℕ → AttributeArg → Attribute
attribute_of span id arg = roll-Attribute (record { span = span; id = id; arg = arg })

unfoldable pub equal_at : Data → Result AttributeArg Fault
equal_at d = do
  _ ← keys_at (key.Equal ∷ []) d
  text ← field_at key.Equal text_at d
  Ok (args.Equal text)

unfoldable pub paren_at : Reader Attribute → Reader AttributeArg
paren_at read d = do
  _ ← keys_at (key.Paren ∷ []) d
  parts ← field_at key.Paren (list_at (λ _. read)) d
  Ok (args.Paren parts)

abbrev pub arg_rows : List (Key × Form)
arg_rows = (key.Equal, form.Equal) ∷ (key.Paren, form.Paren) ∷ []

abbrev pub arg_by : Option Form → Reader Attribute → Reader AttributeArg
arg_by (Some form.Equal) read d = equal_at d
arg_by (Some form.Paren) read d = paren_at read d
arg_by _ read d = Err (here fault.WrongShape)

unfoldable pub arg_at : Reader Attribute → Reader AttributeArg
arg_at read d = if is_some (as_null d) then Ok args.Empty else arg_by (form_by_key arg_rows d) read d

unfoldable pub attribute_layer_at : Reader Attribute → Reader Attribute
attribute_layer_at read d = do
  _ ← keys_at (key.Arg ∷ key.Id ∷ key.Span ∷ []) d
  arg ← field_at key.Arg (arg_at read) d
  id ← field_at key.Id name_at d
  span ← field_at key.Span span_at d
  Ok (attribute_of span id arg)

unfoldable pub attribute_at : Reader Attribute
attribute_at d = nested_reader attribute_layer_at d
