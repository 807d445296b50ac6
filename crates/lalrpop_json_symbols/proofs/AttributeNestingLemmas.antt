-- Attributes inside attributes: that a reader reads by its form, for the functions that call each other and for the laws.
use Rattle.std.proofs.Common.{◌≡◌, [], Option, Some, None, is_some, Result, Err, false, refl}
use Rattle.serde_json.specs.Find.{as_null}
use Rattle.serde_json.specs.Data.{Data, null, boolean, number, string, array, object}
use Rattle.lalrpop_grammar.specs.declared.types.attribute.Attribute.{Attribute}
use Rattle.lalrpop_grammar.specs.declared.types.attribute.AttributeArg.{AttributeArg}
use Rattle.lalrpop_json_values.specs.declared.fault.FaultKind.TheVariants as fault
use Rattle.lalrpop_json_values.specs.declared.fault.ReadError.{ReadError}
use Rattle.lalrpop_json_values.specs.declared.fault.ReadError.TheVariants.{Shape}
use Rattle.lalrpop_json_values.specs.declared.form.Form.{Form}
use Rattle.lalrpop_json_values.specs.declared.form.Form.TheVariants as form
use Rattle.lalrpop_json_values.specs.declared.key.Key.TheVariants as key
use Rattle.lalrpop_json_values.specs.Forms.{form_by_key}
use Rattle.lalrpop_json_values.specs.Gives.{Fails, Gives, here}
use Rattle.lalrpop_json_values.specs.Nested.{Reader, AgreeBelow, IsInward}
use Rattle.lalrpop_json_values.proofs.NestingLemmas.{agree_inside, field_same, listed_same, nested_opened, nesting}
use Rattle.lalrpop_json_symbols.specs.Attributes.{arg_at, arg_by, arg_rows, attribute_at, attribute_layer_at, paren_at}

by_same : (o : Option Form) (f g : Reader Attribute) (d : Data) → AgreeBelow d f g → arg_by o f d ≡ arg_by o g d
unfolding paren_at
by_same (Some form.Paren) f g d same = rw (listed_same f g key.Paren d same) refl
by_same _ f g d same = refl

arg_same : (f g : Reader Attribute) (d : Data) → AgreeBelow d f g → arg_at f d ≡ arg_at g d
unfolding arg_at
arg_same f g null same = refl
arg_same f g (boolean b) same = by_same (form_by_key arg_rows (boolean b)) f g (boolean b) same
arg_same f g (number n) same = by_same (form_by_key arg_rows (number n)) f g (number n) same
arg_same f g (string s) same = by_same (form_by_key arg_rows (string s)) f g (string s) same
arg_same f g (array ds) same = by_same (form_by_key arg_rows (array ds)) f g (array ds) same
arg_same f g (object ms) same = by_same (form_by_key arg_rows (object ms)) f g (object ms) same

inward : IsInward attribute_layer_at
unfolding attribute_layer_at
inward f g d same = rw (field_same (arg_at f) (arg_at g) key.Arg d λ e below. arg_same f g e (agree_inside f g d e below same)) refl

-- an attribute is read by its form, and the attributes inside it likewise
pub attribute_opened : (d : Data) → attribute_at d ≡ attribute_layer_at attribute_at d
unfolding attribute_at
attribute_opened d = nested_opened attribute_layer_at inward d

-- what is read by the form that a value has, it is read as
pub arg_by_form : (f : Form) (d : Data) (r : Result AttributeArg ReadError) → is_some (as_null d) ≡ false
    → Some f ≡ form_by_key arg_rows d → Gives r (arg_by (Some f) attribute_at d) → Gives r (arg_at attribute_at d)
unfolding arg_at
arg_by_form f d r there e gives = rw (there, ← e) gives

other_by : (f : Form) (read : Reader Attribute) (d : Data) → (f ≡ form.Equal → ⊥) → (f ≡ form.Paren → ⊥)
    → arg_by (Some f) read d ≡ Err (here fault.WrongShape)
other_by form.Equal read d equal paren = absurd (equal refl)
other_by form.Paren read d equal paren = absurd (paren refl)
other_by _ read d equal paren = refl

-- a value of no form that stands behind a name is read as none
pub other_arg : (f : Form) (d : Data) (e : ReadError) → is_some (as_null d) ≡ false → Some f ≡ form_by_key arg_rows d
    → e ≡ Shape [] fault.WrongShape → (f ≡ form.Equal → ⊥) → (f ≡ form.Paren → ⊥) → Fails e (arg_at attribute_at d)
unfolding arg_at
other_arg f d e there told is equal paren = rw (is, there, ← told) (other_by f attribute_at d equal paren)

pub no_arg : (d : Data) (e : ReadError) → is_some (as_null d) ≡ false → None ≡ form_by_key arg_rows d
    → e ≡ Shape [] fault.WrongShape → Fails e (arg_at attribute_at d)
unfolding arg_at
no_arg d e there told is = rw (is, there, ← told) refl

pub ruleset attribute_nesting = (attribute_opened, nesting)
