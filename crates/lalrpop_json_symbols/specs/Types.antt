-- How declared types are read.
use Rattle.std.specs.Prelude.{List, [], ◌∷◌, Result, Ok, Err, Option, Some}
use Rattle.lalrpop_grammar.specs.declared.types.type_ref.TypeRef.{TypeRef}
use Rattle.lalrpop_grammar.specs.declared.types.type_ref.TypeRef.TheVariants as types
use Rattle.serde_json.specs.Data.{Data}
use Rattle.lalrpop_json_values.specs.declared.fault.Fault.{Fault}
use Rattle.lalrpop_json_values.specs.declared.fault.FaultKind.TheVariants as fault
use Rattle.lalrpop_json_values.specs.declared.form.Form.{Form}
use Rattle.lalrpop_json_values.specs.declared.form.Form.TheVariants as form
use Rattle.lalrpop_json_values.specs.declared.key.Key.{Key}
use Rattle.lalrpop_json_values.specs.declared.key.Key.TheVariants as key
use Rattle.lalrpop_json_values.specs.Forms.{form_by_key}
use Rattle.lalrpop_json_values.specs.Gives.{◌>>=◌, here}
use Rattle.lalrpop_json_values.specs.Lists.{list_at}
use Rattle.lalrpop_json_values.specs.Nested.{Reader, nested_reader}
use Rattle.lalrpop_json_values.specs.Objects.{field_at, keys_at}
use Rattle.lalrpop_json_values.specs.Scalars.{flag_at, name_at, optional, text_at}
use Rattle.lalrpop_json_symbols.specs.Symbols.{symbol_at}

unfoldable pub id_type_at : Data → Result TypeRef Fault
id_type_at d = do
  _ ← keys_at (key.Id ∷ []) d
  name ← field_at key.Id name_at d
  Ok (types.Id name)

unfoldable pub of_symbol_at : Data → Result TypeRef Fault
of_symbol_at d = do
  _ ← keys_at (key.Symbol ∷ []) d
  symbol ← field_at key.Symbol symbol_at d
  Ok (types.OfSymbol symbol)

unfoldable pub opaque_at : Data → Result TypeRef Fault
opaque_at d = do
  _ ← keys_at (key.Text ∷ []) d
  text ← field_at key.Text text_at d
  Ok (types.Opaque text)

unfoldable pub tuple_at : Reader TypeRef → Reader TypeRef
tuple_at read d = do
  _ ← keys_at (key.Tuple ∷ []) d
  parts ← field_at key.Tuple (list_at (λ _. read)) d
  Ok (types.Tuple parts)

unfoldable pub nominal_at : Reader TypeRef → Reader TypeRef
nominal_at read d = do
  _ ← keys_at (key.Args ∷ key.Path ∷ []) d
  args ← field_at key.Args (list_at (λ _. read)) d
  path ← field_at key.Path text_at d
  Ok (types.Nominal path args)

unfoldable pub ref_at : Reader TypeRef → Reader TypeRef
ref_at read d = do
  _ ← keys_at (key.Lifetime ∷ key.Mutable ∷ key.Ref ∷ []) d
  lifetime ← field_at key.Lifetime (optional text_at) d
  mutable ← field_at key.Mutable flag_at d
  referent ← field_at key.Ref read d
  Ok (types.Ref lifetime mutable referent)

abbrev pub type_rows : List (Key × Form)
type_rows =
    (key.Args, form.Nominal) ∷ (key.Id, form.Id) ∷ (key.Lifetime, form.Ref) ∷ (key.Mutable, form.Ref) ∷ (key.Path, form.Nominal)
    ∷ (key.Ref, form.Ref) ∷ (key.Symbol, form.Symbol) ∷ (key.Text, form.Text) ∷ (key.Tuple, form.Tuple) ∷ []

abbrev pub type_by : Option Form → Reader TypeRef → Reader TypeRef
type_by (Some form.Id) read d = id_type_at d
type_by (Some form.Nominal) read d = nominal_at read d
type_by (Some form.Ref) read d = ref_at read d
type_by (Some form.Symbol) read d = of_symbol_at d
type_by (Some form.Text) read d = opaque_at d
type_by (Some form.Tuple) read d = tuple_at read d
type_by _ read d = Err (here fault.WrongShape)

unfoldable pub type_layer_at : Reader TypeRef → Reader TypeRef
type_layer_at read d = type_by (form_by_key type_rows d) read d

unfoldable pub type_at : Reader TypeRef
type_at d = nested_reader type_layer_at d
