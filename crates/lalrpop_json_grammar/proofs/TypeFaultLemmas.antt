-- Reading a declared type tells its first fault.
use Rattle.std.proofs.Common.{◌≡◌, ◌<◌, Option, Some, None, refl, arith}
use Rattle.serde_json.specs.Data.{Data, depth}
use Rattle.lalrpop_grammar.specs.declared.types.type_ref.TypeRef.{TypeRef}
use Rattle.lalrpop_json_values.specs.declared.form.Form.{Form}
use Rattle.lalrpop_json_values.specs.declared.form.Form.TheVariants as form
use Rattle.lalrpop_json_values.specs.Forms.{form_by_key}
use Rattle.lalrpop_json_values.specs.Key.{key_text}
use Rattle.lalrpop_json_values.specs.Lists.{list_at}
use Rattle.lalrpop_json_values.specs.Nested.{Reader}
use Rattle.lalrpop_json_values.specs.Scalars.{flag_at, name_at, optional, text_at}
use Rattle.lalrpop_json_symbols.specs.Symbols.{symbol_at}
use Rattle.lalrpop_json_symbols.specs.Types.{id_type_at, nominal_at, of_symbol_at, opaque_at, ref_at, tuple_at, type_at, type_by}
use Rattle.lalrpop_json_symbols.specs.Types.{type_layer_at, type_rows}
use Rattle.lalrpop_json_symbols.proofs.TypeNestingLemmas.{type_opened}
use Rattle.lalrpop_json_grammar.specs.Format.{id_type_layout, list_of_component, nominal_layout, of_symbol_layout}
use Rattle.lalrpop_json_grammar.specs.Format.{opaque_layout, ref_layout}
use Rattle.lalrpop_json_grammar.specs.Format.{tuple_layout, type_forms}
use Rattle.lalrpop_json_grammar.specs.Order.{HasKeysInOrder}
use Rattle.lalrpop_json_grammar.specs.Telling.{all_keys, telling, told_form}
use Rattle.lalrpop_json_grammar.specs.Wanted.{Layout, Component, Wanted}
use Rattle.lalrpop_json_grammar.proofs.FieldLemmas.{Tells, TellsOf, done, field}
use Rattle.lalrpop_json_grammar.proofs.ListFaultLemmas.{list_tells}
use Rattle.lalrpop_json_grammar.proofs.ObjectLemmas.{FormFault, object_tells}
use Rattle.lalrpop_json_grammar.proofs.ComponentLemmas.{by_depth, component_told, component_untold, rows_told}
use Rattle.lalrpop_json_grammar.proofs.ScalarFaultLemmas.{flag_tells, name_tells, optional_tells, text_tells}
use Rattle.lalrpop_json_grammar.proofs.SymbolFaultLemmas.{symbol_tells}

type_of : Option Form → Option Layout
type_of (Some form.Id) = Some id_type_layout
type_of (Some form.Nominal) = Some nominal_layout
type_of (Some form.Ref) = Some ref_layout
type_of (Some form.Symbol) = Some of_symbol_layout
type_of (Some form.Text) = Some opaque_layout
type_of (Some form.Tuple) = Some tuple_layout
type_of _ = None

type_told : (d : Data) → told_form Component.type d ≡ type_of (form_by_key type_rows d)
unfolding key_text type_of
type_told d = rows_told type_of refl type_rows (telling all_keys type_forms) d refl

id_tells : (d : Data) → TellsOf (HasKeysInOrder d) (FormFault id_type_layout d) (id_type_at d)
unfolding id_type_at key_text
id_tells d = object_tells id_type_layout d _ refl (field name_at _ (λ e below. name_tells e) λ name. done)

of_symbol_tells : (d : Data) → TellsOf (HasKeysInOrder d) (FormFault of_symbol_layout d) (of_symbol_at d)
unfolding of_symbol_at key_text
of_symbol_tells d = object_tells of_symbol_layout d _ refl (field symbol_at _ (λ e below. symbol_tells e) λ symbol. done)

opaque_tells : (d : Data) → TellsOf (HasKeysInOrder d) (FormFault opaque_layout d) (opaque_at d)
unfolding opaque_at key_text
opaque_tells d = object_tells opaque_layout d _ refl (field text_at _ (λ e below. text_tells e) λ text. done)

-- ---- those with types inside, which are read by this reader

module _ (read : Reader TypeRef) where
  -- the reader tells the first fault of all that is less deep
  abbrev TellsBelow : Data → Type 0
  TellsBelow d = (e : Data) → depth e < depth d → Tells (Wanted.component Component.type) e (read e)

  listed : (d : Data) → TellsBelow d → (e : Data) → depth e < depth d
      → Tells (list_of_component Component.type) e (list_at (λ i. read) e)
  listed d inner e below = list_tells (Wanted.component Component.type) e read λ x deep. inner x (omega (arith, below, deep))

  tuple_tells : (d : Data) → TellsBelow d → TellsOf (HasKeysInOrder d) (FormFault tuple_layout d) (tuple_at read d)
  unfolding tuple_at key_text
  tuple_tells d inner = object_tells tuple_layout d _ refl (field (list_at (λ i. read)) _ (listed d inner) λ parts. done)

  nominal_tells : (d : Data) → TellsBelow d → TellsOf (HasKeysInOrder d) (FormFault nominal_layout d) (nominal_at read d)
  unfolding nominal_at key_text
  nominal_tells d inner =
      object_tells nominal_layout d _ refl
      (field (list_at (λ i. read)) _ (listed d inner) λ args.
      field text_at _ (λ e below. text_tells e) λ path. done)

  ref_tells : (d : Data) → TellsBelow d → TellsOf (HasKeysInOrder d) (FormFault ref_layout d) (ref_at read d)
  unfolding ref_at key_text
  ref_tells d inner =
      object_tells ref_layout d _ refl
      (field (optional text_at) _ (λ e below. optional_tells Wanted.text e text_at (text_tells e)) λ lifetime.
      field flag_at _ (λ e below. flag_tells e) λ mutable.
      field read _ inner λ referent. done)

  by_form : (o : Option Form) (d : Data) → TellsBelow d → told_form Component.type d ≡ type_of o
      → Tells (Wanted.component Component.type) d (type_by o read d)
  unfolding type_of
  by_form (Some form.Id) d inner e = component_told Component.type d id_type_layout (id_type_at d) e (id_tells d)
  by_form (Some form.Nominal) d inner e = component_told Component.type d nominal_layout (nominal_at read d) e (nominal_tells d inner)
  by_form (Some form.Ref) d inner e = component_told Component.type d ref_layout (ref_at read d) e (ref_tells d inner)
  by_form (Some form.Symbol) d inner e = component_told Component.type d of_symbol_layout (of_symbol_at d) e (of_symbol_tells d)
  by_form (Some form.Text) d inner e = component_told Component.type d opaque_layout (opaque_at d) e (opaque_tells d)
  by_form (Some form.Tuple) d inner e = component_told Component.type d tuple_layout (tuple_at read d) e (tuple_tells d inner)
  by_form _ d inner e = component_untold Component.type d e

  layer_tells : (d : Data) → TellsBelow d → Tells (Wanted.component Component.type) d (type_layer_at read d)
  unfolding type_layer_at
  layer_tells d inner = by_form (form_by_key type_rows d) d inner (type_told d)

-- reading a type, and those inside, tells one of its faults, the first where keys are in order, or it has none
pub type_tells : (d : Data) → Tells (Wanted.component Component.type) d (type_at d)
type_tells =
    by_depth (λ d. Tells (Wanted.component Component.type) d (type_at d))
    λ d inner. rw (type_opened d) (layer_tells type_at d inner)
