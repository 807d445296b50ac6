-- How extern blocks are read.
use Rattle.std.specs.Prelude.{[], ◌∷◌, Result, Ok}
use Rattle.lalrpop_grammar.specs.declared.extern_token.AssociatedType.{AssociatedType}
use Rattle.lalrpop_grammar.specs.declared.extern_token.Conversion.{Conversion}
use Rattle.lalrpop_grammar.specs.declared.extern_token.EnumToken.{EnumToken}
use Rattle.lalrpop_grammar.specs.declared.extern_token.ExternToken.{ExternToken}
use Rattle.serde_json.specs.Data.{Data}
use Rattle.lalrpop_json_values.specs.declared.fault.Fault.{Fault}
use Rattle.lalrpop_json_values.specs.declared.key.Key.TheVariants as key
use Rattle.lalrpop_json_values.specs.declared.word.Word.TheVariants as word
use Rattle.lalrpop_json_values.specs.Gives.{◌>>=◌}
use Rattle.lalrpop_json_values.specs.Lists.{list_at}
use Rattle.lalrpop_json_values.specs.Objects.{field_at, keys_at}
use Rattle.lalrpop_json_values.specs.Scalars.{name_at, optional, span_at, text_at, word_at}
use Rattle.lalrpop_json_symbols.specs.Literals.{terminal_at}

unfoldable pub associated_at : Data → Result AssociatedType Fault
associated_at d = do
  _ ← keys_at (key.Name ∷ key.DeclaredType ∷ []) d
  name ← field_at key.Name name_at d
  text ← field_at key.DeclaredType text_at d
  Ok (record { name = name; type_text = text })

unfoldable pub conversion_at : Data → Result Conversion Fault
conversion_at d = do
  _ ← keys_at (key.From ∷ key.To ∷ []) d
  terminal ← field_at key.From terminal_at d
  pattern ← field_at key.To text_at d
  Ok (record { from = terminal; to = pattern })

unfoldable pub enum_at : Data → Result EnumToken Fault
enum_at d = do
  _ ← keys_at (key.Conversions ∷ key.DeclaredType ∷ []) d
  conversions ← field_at key.Conversions (list_at (λ _. conversion_at)) d
  text ← field_at key.DeclaredType text_at d
  Ok (record { conversions = conversions; type_text = text })

unfoldable pub extern_at : Data → Result ExternToken Fault
extern_at d = do
  _ ← keys_at (key.Associated ∷ key.Enum ∷ key.Kind ∷ key.Span ∷ []) d
  associated ← field_at key.Associated (list_at (λ _. associated_at)) d
  own ← field_at key.Enum (optional enum_at) d
  _ ← field_at key.Kind (word_at word.Extern) d
  span ← field_at key.Span span_at d
  Ok (record { span = span; associated_types = associated; enum_token = own })
