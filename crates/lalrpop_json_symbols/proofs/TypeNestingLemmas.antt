-- Types inside types: that a reader reads by its form, for the functions that call each other and for the laws.
use Rattle.std.proofs.Common.{◌≡◌, [], Option, Some, None, Result, Err, refl}
use Rattle.serde_json.specs.Data.{Data}
use Rattle.lalrpop_grammar.specs.declared.types.type_ref.TypeRef.{TypeRef}
use Rattle.lalrpop_json_values.specs.declared.fault.FaultKind.TheVariants as fault
use Rattle.lalrpop_json_values.specs.declared.fault.ReadError.{ReadError}
use Rattle.lalrpop_json_values.specs.declared.fault.ReadError.TheVariants.{Shape}
use Rattle.lalrpop_json_values.specs.declared.form.Form.{Form}
use Rattle.lalrpop_json_values.specs.declared.form.Form.TheVariants as form
use Rattle.lalrpop_json_values.specs.declared.key.Key.TheVariants as key
use Rattle.lalrpop_json_values.specs.Forms.{form_by_key}
use Rattle.lalrpop_json_values.specs.Gives.{Fails, Gives, here}
use Rattle.lalrpop_json_values.specs.Nested.{Reader, AgreeBelow, IsInward}
use Rattle.lalrpop_json_values.proofs.NestingLemmas.{field_same, listed_same, nested_opened, nesting}
use Rattle.lalrpop_json_symbols.specs.Types.{nominal_at, ref_at, tuple_at, type_layer_at, type_at, type_by, type_rows}

by_same : (o : Option Form) (f g : Reader TypeRef) (d : Data) → AgreeBelow d f g → type_by o f d ≡ type_by o g d
unfolding nominal_at ref_at tuple_at
by_same (Some form.Nominal) f g d same = rw (listed_same f g key.Args d same) refl
by_same (Some form.Ref) f g d same = rw (field_same f g key.Ref d same) refl
by_same (Some form.Tuple) f g d same = rw (listed_same f g key.Tuple d same) refl
by_same _ f g d same = refl

inward : IsInward type_layer_at
unfolding type_layer_at
inward f g d same = by_same (form_by_key type_rows d) f g d same

-- a type is read by its form, and the types inside it likewise
pub type_opened : (d : Data) → type_at d ≡ type_layer_at type_at d
unfolding type_at
type_opened d = nested_opened type_layer_at inward d

-- what is read by the form that a value has, it is read as
pub type_by_form : (f : Form) (d : Data) (r : Result TypeRef ReadError) → Some f ≡ form_by_key type_rows d
    → Gives r (type_by (Some f) type_at d) → Gives r (type_at d)
unfolding type_layer_at
type_by_form f d r e gives = rw (type_opened d, ← e) gives

other_by : (f : Form) (read : Reader TypeRef) (d : Data) → (f ≡ form.Id → ⊥) → (f ≡ form.Nominal → ⊥) → (f ≡ form.Ref → ⊥)
    → (f ≡ form.Symbol → ⊥) → (f ≡ form.Text → ⊥) → (f ≡ form.Tuple → ⊥) → type_by (Some f) read d ≡ Err (here fault.WrongShape)
other_by form.Id read d id nominal ref symbol text tuple = absurd (id refl)
other_by form.Nominal read d id nominal ref symbol text tuple = absurd (nominal refl)
other_by form.Ref read d id nominal ref symbol text tuple = absurd (ref refl)
other_by form.Symbol read d id nominal ref symbol text tuple = absurd (symbol refl)
other_by form.Text read d id nominal ref symbol text tuple = absurd (text refl)
other_by form.Tuple read d id nominal ref symbol text tuple = absurd (tuple refl)
other_by _ read d id nominal ref symbol text tuple = refl

-- a value of no form that a type has is read as none
pub other_type : (f : Form) (d : Data) (e : ReadError) → Some f ≡ form_by_key type_rows d → e ≡ Shape [] fault.WrongShape
    → (f ≡ form.Id → ⊥) → (f ≡ form.Nominal → ⊥) → (f ≡ form.Ref → ⊥) → (f ≡ form.Symbol → ⊥) → (f ≡ form.Text → ⊥)
    → (f ≡ form.Tuple → ⊥) → Fails e (type_at d)
unfolding type_layer_at
other_type f d e told is id nominal ref symbol text tuple =
    rw (is, type_opened d, ← told) (other_by f type_at d id nominal ref symbol text tuple)

pub no_type : (d : Data) (e : ReadError) → None ≡ form_by_key type_rows d → e ≡ Shape [] fault.WrongShape → Fails e (type_at d)
unfolding type_layer_at
no_type d e told is = rw (is, type_opened d, ← told) refl

pub ruleset type_nesting = (type_opened, nesting)
