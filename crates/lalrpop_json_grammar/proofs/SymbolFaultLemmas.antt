-- Reading a symbol tells its first fault.
use Rattle.std.proofs.Common.{◌≡◌, ◌<◌, List, [], ◌∷◌, Option, Some, None, Err, refl}
use Rattle.std.proofs.Common.{arith, map, false}
use Rattle.serde_json.specs.Data.{Data, depth}
use Rattle.serde_json.specs.Find.{get}
use Rattle.lalrpop_grammar_symbols.specs.declared.symbol.Symbol.{Symbol}
use Rattle.lalrpop_grammar_symbols.specs.declared.symbol.SymbolKind.{SymbolKind}
use Rattle.lalrpop_grammar_symbols.specs.declared.symbol.RepeatOp.TheVariants as ops
use Rattle.lalrpop_grammar_symbols.specs.declared.symbol.SymbolKind.TheVariants as kinds
use Rattle.lalrpop_json_values.specs.declared.fault.FaultKind.TheVariants as fault
use Rattle.lalrpop_json_values.specs.declared.form.Form.{Form}
use Rattle.lalrpop_json_values.specs.declared.form.Form.TheVariants as form
use Rattle.lalrpop_json_values.specs.declared.key.Key.{Key}
use Rattle.lalrpop_json_values.specs.declared.key.Key.TheVariants as key
use Rattle.lalrpop_json_values.specs.declared.word.Word.{Word}
use Rattle.lalrpop_json_values.specs.declared.word.Word.TheVariants as word
use Rattle.lalrpop_json_values.specs.Forms.{form_by_key}
use Rattle.lalrpop_json_values.specs.Gives.{here}
use Rattle.lalrpop_json_values.specs.Key.{key_text}
use Rattle.lalrpop_json_values.specs.Lists.{list_at}
use Rattle.lalrpop_json_values.specs.Nested.{Reader}
use Rattle.lalrpop_json_values.specs.Scalars.{flag_at, is_word, name_at, span_at, word_at}
use Rattle.lalrpop_json_values.specs.Word.{word_text}
use Rattle.lalrpop_json_symbols.specs.Literals.{literal_at}
use Rattle.lalrpop_json_symbols.specs.Symbols.{choose_at, form_of_symbol, group_at, id_at, literal_symbol_at, look_at, macro_at, named_at}
use Rattle.lalrpop_json_symbols.specs.Symbols.{op_at, repeat_at, symbol_at, symbol_by, symbol_layer_at, symbol_rows, symbol_words}
use Rattle.lalrpop_json_symbols.proofs.SymbolNestingLemmas.{symbol_opened}
use Rattle.lalrpop_json_grammar.specs.Format.{choose_layout, group_layout, id_layout, list_of_component, literal_layout, look_layout}
use Rattle.lalrpop_json_grammar.specs.Format.{macro_layout, named_layout, repeat_layout, symbol_forms}
use Rattle.lalrpop_json_grammar.specs.Order.{HasKeysInOrder}
use Rattle.lalrpop_json_grammar.specs.Telling.{all_keys, telling, told_form}
use Rattle.lalrpop_json_grammar.specs.Wanted.{Layout, Component, Wanted}
use Rattle.lalrpop_json_grammar.proofs.AttributeFaultLemmas.{literal_tells}
use Rattle.lalrpop_json_grammar.proofs.FieldLemmas.{Tells, TellsOf, done, field}
use Rattle.lalrpop_json_grammar.proofs.ListFaultLemmas.{list_tells}
use Rattle.lalrpop_json_grammar.proofs.ObjectLemmas.{FormFault, object_tells}
use Rattle.lalrpop_json_grammar.proofs.ComponentLemmas.{SameRows, WordsKnown, WordsTell, by_depth, kinds_told, component_told}
use Rattle.lalrpop_json_grammar.proofs.ComponentLemmas.{component_untold}
use Rattle.lalrpop_json_grammar.proofs.ScalarFaultLemmas.{flag_tells, name_tells, or_word, span_tells, word_tells, words_tell}

-- ---- the form that is told

symbol_of : Option Form → Option Layout
symbol_of (Some form.Choose) = Some choose_layout
symbol_of (Some form.Error) = Some (look_layout word.Error)
symbol_of (Some form.Group) = Some group_layout
symbol_of (Some form.Id) = Some id_layout
symbol_of (Some form.Lookahead) = Some (look_layout word.Lookahead)
symbol_of (Some form.Lookbehind) = Some (look_layout word.Lookbehind)
symbol_of (Some form.Macro) = Some macro_layout
symbol_of (Some form.Named) = Some named_layout
symbol_of (Some form.Repeat) = Some repeat_layout
symbol_of (Some form.Terminal) = Some literal_layout
symbol_of _ = None

words_tell_forms : WordsTell symbol_of symbol_forms symbol_words
unfolding word_text symbol_of
words_tell_forms = (refl, (refl, (refl, (refl, (refl, (refl, (refl, (refl, (refl, (refl, tt))))))))))

words_known : WordsKnown symbol_words symbol_forms
unfolding word_text
words_known = (refl, (refl, (refl, (refl, (refl, (refl, (refl, (refl, (refl, (refl, tt))))))))))

-- the readers' rows, with that of `kind`
abbrev whole_rows : List (Key × Form)
whole_rows =
    (key.Args, form.Macro) ∷ (key.Expr, form.Group) ∷ (key.Kind, form.Id) ∷ (key.Mutable, form.Named) ∷ (key.Name, form.Id)
    ∷ (key.Op, form.Repeat) ∷ (key.Span, form.Id) ∷ (key.Symbol, form.Repeat) ∷ (key.Terminal, form.Terminal) ∷ []

same_rows : SameRows symbol_of whole_rows (telling all_keys (map (λ r. r.1) symbol_forms))
unfolding key_text symbol_of
same_rows = refl

kind_left : (d : Data) → get (key_text key.Kind) d ≡ None → form_by_key whole_rows d ≡ form_by_key symbol_rows d
kind_left d none = rw none refl

symbol_told : (d : Data) → told_form Component.symbol d ≡ symbol_of (form_of_symbol d)
unfolding form_of_symbol symbol_of
symbol_told d =
    kinds_told symbol_of refl symbol_words symbol_rows whole_rows symbol_forms words_tell_forms words_known same_rows kind_left d

-- ---- those without a symbol inside

op_tells : (d : Data) → Tells (Wanted.word (word.Star ∷ word.Plus ∷ word.Question ∷ [])) d (op_at d)
unfolding op_at
op_tells d = words_tell (word.Star ∷ word.Plus ∷ word.Question ∷ []) d _ λ t.
    or_word (is_word word.Star t) _ ops.Star _
    (or_word (is_word word.Plus t) _ ops.Plus _
    (or_word (is_word word.Question t) false ops.Question (Err (here fault.WrongShape)) refl))

id_tells : (d : Data) → TellsOf (HasKeysInOrder d) (FormFault id_layout d) (id_at d)
unfolding id_at key_text
id_tells d =
    object_tells id_layout d _ refl
    (field (word_at word.Id) _ (λ e below. word_tells word.Id e) λ u.
    field name_at _ (λ e below. name_tells e) λ name.
    field span_at _ (λ e below. span_tells e) λ span. done)

literal_symbol_tells : (d : Data) → TellsOf (HasKeysInOrder d) (FormFault literal_layout d) (literal_symbol_at d)
unfolding literal_symbol_at key_text
literal_symbol_tells d =
    object_tells literal_layout d _ refl
    (field (word_at word.Terminal) _ (λ e below. word_tells word.Terminal e) λ u.
    field span_at _ (λ e below. span_tells e) λ span.
    field literal_at _ (λ e below. literal_tells e) λ literal. done)

look_tells : (w : Word) (kind : SymbolKind) (d : Data) → TellsOf (HasKeysInOrder d) (FormFault (look_layout w) d) (look_at w kind d)
unfolding look_at key_text
look_tells w kind d =
    object_tells (look_layout w) d _ refl
    (field (word_at w) _ (λ e below. word_tells w e) λ u.
    field span_at _ (λ e below. span_tells e) λ span. done)

-- ---- those with symbols inside, which are read by this reader

module _ (read : Reader Symbol) where
  -- the reader tells the first fault of all that is less deep
  abbrev TellsBelow : Data → Type 0
  TellsBelow d = (e : Data) → depth e < depth d → Tells (Wanted.component Component.symbol) e (read e)

  listed : (d : Data) → TellsBelow d → (e : Data) → depth e < depth d
      → Tells (list_of_component Component.symbol) e (list_at (λ i. read) e)
  listed d inner e below = list_tells (Wanted.component Component.symbol) e read λ x deep. inner x (omega (arith, below, deep))

  group_tells : (d : Data) → TellsBelow d → TellsOf (HasKeysInOrder d) (FormFault group_layout d) (group_at read d)
  unfolding group_at key_text
  group_tells d inner =
      object_tells group_layout d _ refl
      (field (list_at (λ i. read)) _ (listed d inner) λ symbols.
      field (word_at word.Group) _ (λ e below. word_tells word.Group e) λ u.
      field span_at _ (λ e below. span_tells e) λ span. done)

  macro_tells : (d : Data) → TellsBelow d → TellsOf (HasKeysInOrder d) (FormFault macro_layout d) (macro_at read d)
  unfolding macro_at key_text
  macro_tells d inner =
      object_tells macro_layout d _ refl
      (field (list_at (λ i. read)) _ (listed d inner) λ args.
      field (word_at word.Macro) _ (λ e below. word_tells word.Macro e) λ u.
      field name_at _ (λ e below. name_tells e) λ name.
      field span_at _ (λ e below. span_tells e) λ span. done)

  repeat_tells : (d : Data) → TellsBelow d → TellsOf (HasKeysInOrder d) (FormFault repeat_layout d) (repeat_at read d)
  unfolding repeat_at key_text
  repeat_tells d inner =
      object_tells repeat_layout d _ refl
      (field (word_at word.Repeat) _ (λ e below. word_tells word.Repeat e) λ u.
      field op_at _ (λ e below. op_tells e) λ op.
      field span_at _ (λ e below. span_tells e) λ span.
      field read _ inner λ symbol. done)

  choose_tells : (d : Data) → TellsBelow d → TellsOf (HasKeysInOrder d) (FormFault choose_layout d) (choose_at read d)
  unfolding choose_at key_text
  choose_tells d inner =
      object_tells choose_layout d _ refl
      (field (word_at word.Choose) _ (λ e below. word_tells word.Choose e) λ u.
      field span_at _ (λ e below. span_tells e) λ span.
      field read _ inner λ symbol. done)

  named_tells : (d : Data) → TellsBelow d → TellsOf (HasKeysInOrder d) (FormFault named_layout d) (named_at read d)
  unfolding named_at key_text
  named_tells d inner =
      object_tells named_layout d _ refl
      (field (word_at word.Named) _ (λ e below. word_tells word.Named e) λ u.
      field flag_at _ (λ e below. flag_tells e) λ mutable.
      field name_at _ (λ e below. name_tells e) λ name.
      field span_at _ (λ e below. span_tells e) λ span.
      field read _ inner λ symbol. done)

  by_form : (o : Option Form) (d : Data) → TellsBelow d → told_form Component.symbol d ≡ symbol_of o
      → Tells (Wanted.component Component.symbol) d (symbol_by o read d)
  unfolding symbol_of
  by_form (Some form.Choose) d inner e = component_told Component.symbol d choose_layout (choose_at read d) e (choose_tells d inner)
  by_form (Some form.Error) d inner e =
      component_told Component.symbol d (look_layout word.Error) (look_at word.Error kinds.Error d) e (look_tells word.Error kinds.Error d)
  by_form (Some form.Group) d inner e = component_told Component.symbol d group_layout (group_at read d) e (group_tells d inner)
  by_form (Some form.Id) d inner e = component_told Component.symbol d id_layout (id_at d) e (id_tells d)
  by_form (Some form.Lookahead) d inner e =
      component_told Component.symbol d (look_layout word.Lookahead) (look_at word.Lookahead kinds.Lookahead d) e
      (look_tells word.Lookahead kinds.Lookahead d)
  by_form (Some form.Lookbehind) d inner e =
      component_told Component.symbol d (look_layout word.Lookbehind) (look_at word.Lookbehind kinds.Lookbehind d) e
      (look_tells word.Lookbehind kinds.Lookbehind d)
  by_form (Some form.Macro) d inner e = component_told Component.symbol d macro_layout (macro_at read d) e (macro_tells d inner)
  by_form (Some form.Named) d inner e = component_told Component.symbol d named_layout (named_at read d) e (named_tells d inner)
  by_form (Some form.Repeat) d inner e = component_told Component.symbol d repeat_layout (repeat_at read d) e (repeat_tells d inner)
  by_form (Some form.Terminal) d inner e =
      component_told Component.symbol d literal_layout (literal_symbol_at d) e (literal_symbol_tells d)
  by_form _ d inner e = component_untold Component.symbol d e

  layer_tells : (d : Data) → TellsBelow d → Tells (Wanted.component Component.symbol) d (symbol_layer_at read d)
  unfolding symbol_layer_at
  layer_tells d inner = by_form (form_of_symbol d) d inner (symbol_told d)

-- reading a symbol, and those inside, tells one of its faults, the first where keys are in order, or it has none
pub symbol_tells : (d : Data) → Tells (Wanted.component Component.symbol) d (symbol_at d)
symbol_tells =
    by_depth (λ d. Tells (Wanted.component Component.symbol) d (symbol_at d))
    λ d inner. rw (symbol_opened d) (layer_tells symbol_at d inner)

-- reading a list of symbols tells one of its faults, the first where keys are in order, or it has none
pub symbols_tell : (d : Data) → Tells (list_of_component Component.symbol) d (list_at (λ i. symbol_at) d)
symbols_tell d = list_tells (Wanted.component Component.symbol) d symbol_at λ e below. symbol_tells e
