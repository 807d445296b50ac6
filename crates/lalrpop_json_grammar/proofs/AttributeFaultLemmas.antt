-- Reading a literal, a terminal or an attribute tells its first fault.
use Rattle.std.proofs.Common.{◌≡◌, ◌<◌, [], ◌∷◌, Option, Some, None, refl, arith}
use Rattle.serde_json.specs.Data.{Data, depth}
use Rattle.lalrpop_grammar.specs.declared.types.attribute.Attribute.{Attribute}
use Rattle.lalrpop_grammar.specs.declared.types.attribute.AttributeArg.TheVariants as args
use Rattle.lalrpop_grammar_symbols.specs.declared.terminal.TerminalString.TheVariants as terminals
use Rattle.lalrpop_json_values.specs.declared.form.Form.{Form}
use Rattle.lalrpop_json_values.specs.declared.form.Form.TheVariants as form
use Rattle.lalrpop_json_values.specs.Forms.{form_by_key}
use Rattle.lalrpop_json_values.specs.Key.{key_text}
use Rattle.lalrpop_json_values.specs.Lists.{list_at}
use Rattle.lalrpop_json_values.specs.Nested.{Reader}
use Rattle.lalrpop_json_values.specs.Scalars.{name_at, span_at, text_at}
use Rattle.lalrpop_json_symbols.specs.Attributes.{arg_at, arg_by, arg_rows, attribute_at, attribute_layer_at, equal_at, paren_at}
use Rattle.lalrpop_json_symbols.specs.Literals.{bare_at, literal_at, literal_by, literal_rows, quoted_at, regex_at}
use Rattle.lalrpop_json_symbols.specs.Literals.{terminal_at, terminal_by, terminal_rows}
use Rattle.lalrpop_json_symbols.proofs.AttributeNestingLemmas.{attribute_opened}
use Rattle.lalrpop_json_grammar.specs.Format.{attribute_layout, bare_layout, equal_layout, paren_layout, quoted_layout, regex_layout}
use Rattle.lalrpop_json_grammar.specs.Format.{optional_component}
use Rattle.lalrpop_json_grammar.specs.Order.{HasKeysInOrder}
use Rattle.lalrpop_json_grammar.specs.Telling.{all_keys, telling, told_form}
use Rattle.lalrpop_json_grammar.specs.Wanted.{Layout, Component, Wanted}
use Rattle.lalrpop_json_grammar.proofs.FieldLemmas.{Tells, TellsOf, done, field, tells_then}
use Rattle.lalrpop_json_grammar.proofs.ListFaultLemmas.{list_tells}
use Rattle.lalrpop_json_grammar.proofs.ObjectLemmas.{FormFault, object_tells}
use Rattle.lalrpop_json_grammar.proofs.ComponentLemmas.{by_depth, component_told, component_untold, rows_told}
use Rattle.lalrpop_json_grammar.proofs.ScalarFaultLemmas.{name_tells, option_tells, span_tells, text_tells}

-- ---- literals

quoted_tells : (d : Data) → TellsOf (HasKeysInOrder d) (FormFault quoted_layout d) (quoted_at d)
unfolding quoted_at key_text
quoted_tells d =
    object_tells quoted_layout d _ refl
    (field text_at _ (λ e below. text_tells e) λ text. done)

regex_tells : (d : Data) → TellsOf (HasKeysInOrder d) (FormFault regex_layout d) (regex_at d)
unfolding regex_at key_text
regex_tells d =
    object_tells regex_layout d _ refl
    (field text_at _ (λ e below. text_tells e) λ text. done)

bare_tells : (d : Data) → TellsOf (HasKeysInOrder d) (FormFault bare_layout d) (bare_at d)
unfolding bare_at key_text
bare_tells d =
    object_tells bare_layout d _ refl
    (field name_at _ (λ e below. name_tells e) λ name. done)

literal_of : Option Form → Option Layout
literal_of (Some form.Quoted) = Some quoted_layout
literal_of (Some form.Regex) = Some regex_layout
literal_of _ = None

literal_told : (d : Data) → told_form Component.literal d ≡ literal_of (form_by_key literal_rows d)
unfolding key_text literal_of
literal_told d = rows_told literal_of refl literal_rows (telling all_keys (quoted_layout ∷ regex_layout ∷ [])) d refl

by_literal : (o : Option Form) (d : Data) → told_form Component.literal d ≡ literal_of o
    → Tells (Wanted.component Component.literal) d (literal_by o d)
unfolding literal_of
by_literal (Some form.Quoted) d e = component_told Component.literal d quoted_layout (quoted_at d) e (quoted_tells d)
by_literal (Some form.Regex) d e = component_told Component.literal d regex_layout (regex_at d) e (regex_tells d)
by_literal _ d e = component_untold Component.literal d e

-- reading a literal tells one of its faults, the first where keys are in order, or it has none
pub literal_tells : (d : Data) → Tells (Wanted.component Component.literal) d (literal_at d)
unfolding literal_at
literal_tells d = by_literal (form_by_key literal_rows d) d (literal_told d)

-- ---- literals and bare names

terminal_of : Option Form → Option Layout
terminal_of (Some form.Bare) = Some bare_layout
terminal_of (Some form.Quoted) = Some quoted_layout
terminal_of (Some form.Regex) = Some regex_layout
terminal_of _ = None

terminal_told : (d : Data) → told_form Component.terminal d ≡ terminal_of (form_by_key terminal_rows d)
unfolding key_text terminal_of
terminal_told d =
    rows_told terminal_of refl terminal_rows (telling all_keys (quoted_layout ∷ regex_layout ∷ bare_layout ∷ [])) d refl

by_terminal : (o : Option Form) (d : Data) → told_form Component.terminal d ≡ terminal_of o
    → Tells (Wanted.component Component.terminal) d (terminal_by o d)
unfolding terminal_of
by_terminal (Some form.Bare) d e = component_told Component.terminal d bare_layout (bare_at d) e (bare_tells d)
by_terminal (Some form.Quoted) d e =
    component_told Component.terminal d quoted_layout _ e
    (tells_then (HasKeysInOrder d) (FormFault quoted_layout d) (λ l. terminals.Literal l) (quoted_at d) (quoted_tells d))
by_terminal (Some form.Regex) d e =
    component_told Component.terminal d regex_layout _ e
    (tells_then (HasKeysInOrder d) (FormFault regex_layout d) (λ l. terminals.Literal l) (regex_at d) (regex_tells d))
by_terminal _ d e = component_untold Component.terminal d e

-- reading a terminal tells one of its faults, the first where keys are in order, or it has none
pub terminal_tells : (d : Data) → Tells (Wanted.component Component.terminal) d (terminal_at d)
unfolding terminal_at
terminal_tells d = by_terminal (form_by_key terminal_rows d) d (terminal_told d)

-- ---- attributes

equal_tells : (d : Data) → TellsOf (HasKeysInOrder d) (FormFault equal_layout d) (equal_at d)
unfolding equal_at key_text
equal_tells d =
    object_tells equal_layout d _ refl
    (field text_at _ (λ e below. text_tells e) λ text. done)

argument_of : Option Form → Option Layout
argument_of (Some form.Equal) = Some equal_layout
argument_of (Some form.Paren) = Some paren_layout
argument_of _ = None

argument_told : (d : Data) → told_form Component.argument d ≡ argument_of (form_by_key arg_rows d)
unfolding key_text argument_of
argument_told d = rows_told argument_of refl arg_rows (telling all_keys (equal_layout ∷ paren_layout ∷ [])) d refl

-- what stands inside an attribute is read by this reader
module _ (read : Reader Attribute) where
  -- the reader tells the first fault of all that is less deep
  abbrev TellsBelow : Data → Type 0
  TellsBelow d = (e : Data) → depth e < depth d → Tells (Wanted.component Component.attribute) e (read e)

  paren_tells : (d : Data) → TellsBelow d → TellsOf (HasKeysInOrder d) (FormFault paren_layout d) (paren_at read d)
  unfolding paren_at key_text
  paren_tells d inner =
      object_tells paren_layout d _ refl
      (field (list_at (λ i. read)) _
      (λ e below. list_tells (Wanted.component Component.attribute) e read λ x deep. inner x (omega (arith, below, deep)))
      λ parts. done)

  by_argument : (o : Option Form) (d : Data) → TellsBelow d → told_form Component.argument d ≡ argument_of o
      → Tells (Wanted.component Component.argument) d (arg_by o read d)
  unfolding argument_of
  by_argument (Some form.Equal) d inner e = component_told Component.argument d equal_layout (equal_at d) e (equal_tells d)
  by_argument (Some form.Paren) d inner e = component_told Component.argument d paren_layout (paren_at read d) e (paren_tells d inner)
  by_argument _ d inner e = component_untold Component.argument d e

  argument_tells : (d : Data) → TellsBelow d → Tells (optional_component Component.argument) d (arg_at read d)
  unfolding arg_at
  argument_tells d inner =
      option_tells (Wanted.component Component.argument) d args.Empty _ (by_argument (form_by_key arg_rows d) d inner (argument_told d))

  layer_tells : (d : Data) → TellsBelow d → Tells (Wanted.component Component.attribute) d (attribute_layer_at read d)
  unfolding attribute_layer_at key_text
  layer_tells d inner =
      component_told Component.attribute d attribute_layout _ refl
      (object_tells attribute_layout d _ refl
      (field (arg_at read) _
      (λ e below. argument_tells e λ x deep. inner x (omega (arith, below, deep))) λ arg.
      field name_at _ (λ e below. name_tells e) λ id.
      field span_at _ (λ e below. span_tells e) λ span. done))

-- reading an attribute, and those inside, tells one of its faults, the first where keys are in order, or it has none
pub attribute_tells : (d : Data) → Tells (Wanted.component Component.attribute) d (attribute_at d)
attribute_tells =
    by_depth (λ d. Tells (Wanted.component Component.attribute) d (attribute_at d))
    λ d inner. rw (attribute_opened d) (layer_tells attribute_at d inner)
