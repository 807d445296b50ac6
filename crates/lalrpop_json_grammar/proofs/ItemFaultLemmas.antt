-- Reading an item or a grammar tells its first fault.
use Rattle.std.proofs.Common.{◌≡◌, ℕ, List, [], ◌∷◌, Option, Some, None, Err, refl}
use Rattle.std.proofs.Common.{map, false}
use Rattle.serde_json.specs.Data.{Data}
use Rattle.serde_json.specs.Find.{as_str, get}
use Rattle.lalrpop_grammar.specs.declared.nonterminal.Visibility.TheVariants as visible
use Rattle.lalrpop_grammar.specs.declared.match_token.MatchMapping.TheVariants as maps
use Rattle.lalrpop_json_values.specs.declared.fault.FaultKind.TheVariants as fault
use Rattle.lalrpop_json_values.specs.declared.form.Form.{Form}
use Rattle.lalrpop_json_values.specs.declared.form.Form.TheVariants as form
use Rattle.lalrpop_json_values.specs.declared.key.Key.{Key}
use Rattle.lalrpop_json_values.specs.declared.key.Key.TheVariants as key
use Rattle.lalrpop_json_values.specs.declared.word.Word.TheVariants as word
use Rattle.lalrpop_json_values.specs.Forms.{form_by_key}
use Rattle.lalrpop_json_values.specs.Gives.{here}
use Rattle.lalrpop_json_values.specs.Key.{key_text}
use Rattle.lalrpop_json_values.specs.Lists.{list_at}
use Rattle.lalrpop_json_values.specs.Scalars.{is_word, name_at, optional, span_at, text_at, word_at}
use Rattle.lalrpop_json_values.specs.Word.{word_text}
use Rattle.lalrpop_json_symbols.specs.Attributes.{attribute_at}
use Rattle.lalrpop_json_symbols.specs.Literals.{literal_at, terminal_at}
use Rattle.lalrpop_json_symbols.specs.Types.{type_at}
use Rattle.lalrpop_json_items.specs.Alternatives.{alternatives_at}
use Rattle.lalrpop_json_items.specs.Externs.{associated_at, conversion_at, enum_at, extern_at}
use Rattle.lalrpop_json_items.specs.Items.{import_at, item_at, item_by, item_form, item_rows, item_words}
use Rattle.lalrpop_json_items.specs.Matches.{catch_all_at, contents_at, listed_entry_at, mapping_at, mapping_from, match_at}
use Rattle.lalrpop_json_items.specs.Matches.{match_entry_at, match_entry_by, match_entry_rows}
use Rattle.lalrpop_json_items.specs.Rules.{name_in, parameter_at, pub_in_at, rule_at, visibility_at, visibility_by, visibility_from}
use Rattle.lalrpop_json_items.specs.Rules.{visibility_rows}
use Rattle.lalrpop_json_grammar.specs.Grammars.{grammar_at}
use Rattle.lalrpop_json_grammar.specs.Faults.{IsFaultOfValue}
use Rattle.lalrpop_json_grammar.specs.Format.{associated_layout, catch_all_layout, conversion_layout, entry_layout, enumeration_layout}
use Rattle.lalrpop_json_grammar.specs.Format.{extern_layout, grammar_layout, import_layout, item_forms, list_of_component, match_layout}
use Rattle.lalrpop_json_grammar.specs.Format.{pub_in_layout, rule_layout}
use Rattle.lalrpop_json_grammar.specs.Order.{HasKeysInOrder}
use Rattle.lalrpop_json_grammar.specs.Telling.{all_keys, telling, told_form}
use Rattle.lalrpop_json_grammar.specs.Wanted.{Layout, Component, Wanted}
use Rattle.lalrpop_json_grammar.proofs.AlternativeFaultLemmas.{alternatives_of_rule, attributes_tell}
use Rattle.lalrpop_json_grammar.proofs.AttributeFaultLemmas.{literal_tells, terminal_tells}
use Rattle.lalrpop_json_grammar.proofs.FieldLemmas.{Tells, TellsOf, done, field, tells_then}
use Rattle.lalrpop_json_grammar.proofs.ListFaultLemmas.{list_tells}
use Rattle.lalrpop_json_grammar.proofs.ObjectLemmas.{FormFault, object_tells}
use Rattle.lalrpop_json_grammar.proofs.ComponentLemmas.{SameRows, WordsKnown, WordsTell, kinds_told, component_told}
use Rattle.lalrpop_json_grammar.proofs.ComponentLemmas.{component_untold, rows_told}
use Rattle.lalrpop_json_grammar.proofs.ScalarFaultLemmas.{name_tells, optional_tells, or_other, or_text, or_word, span_tells, text_tells}
use Rattle.lalrpop_json_grammar.proofs.ScalarFaultLemmas.{word_tells}
use Rattle.lalrpop_json_grammar.proofs.TypeFaultLemmas.{type_tells}

-- ---- rules

pub_in_tells : (d : Data) → TellsOf (HasKeysInOrder d) (FormFault pub_in_layout d) (pub_in_at d)
unfolding pub_in_at key_text
pub_in_tells d = object_tells pub_in_layout d _ refl (field text_at _ (λ e below. text_tells e) λ path. done)

visibility_of_form : Option Form → Option Layout
visibility_of_form (Some form.PubIn) = Some pub_in_layout
visibility_of_form _ = None

visibility_told : (d : Data) → told_form Component.visibility d ≡ visibility_of_form (form_by_key visibility_rows d)
unfolding key_text visibility_of_form
visibility_told d = rows_told visibility_of_form refl visibility_rows (telling all_keys (pub_in_layout ∷ [])) d refl

by_visibility : (o : Option Form) (d : Data) → told_form Component.visibility d ≡ visibility_of_form o
    → Tells (Wanted.component Component.visibility) d (visibility_by o d)
unfolding visibility_of_form
by_visibility (Some form.PubIn) d e = component_told Component.visibility d pub_in_layout (pub_in_at d) e (pub_in_tells d)
by_visibility _ d e = component_untold Component.visibility d e

by_visible : (o : Option (List ℕ)) (d : Data) → as_str d ≡ o
    → Tells (Wanted.word_or (word.Pub ∷ word.Priv ∷ []) (Wanted.component Component.visibility)) d (visibility_from o d)
by_visible (Some t) d e =
    or_text (word.Pub ∷ word.Priv ∷ []) (Wanted.component Component.visibility) d t _ e
    (or_word (is_word word.Pub t) _ visible.Pub _
    (or_word (is_word word.Priv t) false visible.Priv (Err (here fault.WrongShape)) refl))
by_visible None d e =
    or_other (word.Pub ∷ word.Priv ∷ []) (Wanted.component Component.visibility) d _ e
    (by_visibility (form_by_key visibility_rows d) d (visibility_told d))

visibility_tells : (d : Data)
    → Tells (Wanted.word_or (word.Pub ∷ word.Priv ∷ []) (Wanted.component Component.visibility)) d (visibility_at d)
unfolding visibility_at
visibility_tells d = by_visible (as_str d) d refl

parameter_tells : (d : Data) → Tells Wanted.name d (parameter_at d)
unfolding parameter_at
parameter_tells d = tells_then (HasKeysInOrder d) (IsFaultOfValue Wanted.name d) _ (name_at d) (name_tells d)

rule_tells : (d : Data) → TellsOf (HasKeysInOrder d) (FormFault rule_layout d) (rule_at d)
unfolding rule_at key_text
rule_tells d =
    object_tells rule_layout d _ refl
    (field (alternatives_at (name_in d)) _ (λ e below. alternatives_of_rule (name_in d) e) λ alternatives.
    field (list_at (λ i. parameter_at)) _ (λ e below. list_tells Wanted.name e parameter_at λ x deep. parameter_tells x) λ args.
    field (list_at (λ i. attribute_at)) _ (λ e below. attributes_tell e) λ attributes.
    field (word_at word.Rule) _ (λ e below. word_tells word.Rule e) λ u.
    field name_at _ (λ e below. name_tells e) λ name.
    field span_at _ (λ e below. span_tells e) λ span.
    field (optional type_at) _ (λ e below. optional_tells (Wanted.component Component.type) e type_at (type_tells e)) λ declared.
    field visibility_at _ (λ e below. visibility_tells e) λ visibility. done)

-- ---- match blocks

by_mapping : (o : Option (List ℕ)) (d : Data) → as_str d ≡ o
    → Tells (Wanted.word_or (word.Skip ∷ []) (Wanted.component Component.terminal)) d (mapping_from o d)
by_mapping (Some t) d e =
    or_text (word.Skip ∷ []) (Wanted.component Component.terminal) d t _ e
    (or_word (is_word word.Skip t) false maps.Skip (Err (here fault.WrongShape)) refl)
by_mapping None d e =
    or_other (word.Skip ∷ []) (Wanted.component Component.terminal) d _ e
    (tells_then (HasKeysInOrder d) (IsFaultOfValue (Wanted.component Component.terminal) d) _ (terminal_at d) (terminal_tells d))

mapping_tells : (d : Data) → Tells (Wanted.word_or (word.Skip ∷ []) (Wanted.component Component.terminal)) d (mapping_at d)
unfolding mapping_at
mapping_tells d = by_mapping (as_str d) d refl

listed_tells : (d : Data) → TellsOf (HasKeysInOrder d) (FormFault entry_layout d) (listed_entry_at d)
unfolding listed_entry_at key_text
listed_tells d =
    object_tells entry_layout d _ refl
    (field literal_at _ (λ e below. literal_tells e) λ literal.
    field (optional mapping_at) _ (λ e below. optional_tells (Wanted.word_or (word.Skip
    ∷ []) (Wanted.component Component.terminal)) e mapping_at
    (mapping_tells e)) λ mapping.
    field span_at _ (λ e below. span_tells e) λ span. done)

catch_all_tells : (d : Data) → TellsOf (HasKeysInOrder d) (FormFault catch_all_layout d) (catch_all_at d)
unfolding catch_all_at key_text
catch_all_tells d = object_tells catch_all_layout d _ refl (field span_at _ (λ e below. span_tells e) λ span. done)

entry_of : Option Form → Option Layout
entry_of (Some form.CatchAll) = Some catch_all_layout
entry_of (Some form.Entry) = Some entry_layout
entry_of _ = None

entry_told : (d : Data) → told_form Component.entry d ≡ entry_of (form_by_key match_entry_rows d)
unfolding key_text entry_of
entry_told d = rows_told entry_of refl match_entry_rows (telling all_keys (catch_all_layout ∷ entry_layout ∷ [])) d refl

by_entry : (o : Option Form) (d : Data) → told_form Component.entry d ≡ entry_of o
    → Tells (Wanted.component Component.entry) d (match_entry_by o d)
unfolding entry_of
by_entry (Some form.CatchAll) d e = component_told Component.entry d catch_all_layout (catch_all_at d) e (catch_all_tells d)
by_entry (Some form.Entry) d e = component_told Component.entry d entry_layout (listed_entry_at d) e (listed_tells d)
by_entry _ d e = component_untold Component.entry d e

entry_tells : (d : Data) → Tells (Wanted.component Component.entry) d (match_entry_at d)
unfolding match_entry_at
entry_tells d = by_entry (form_by_key match_entry_rows d) d (entry_told d)

contents_tell : (d : Data) → Tells (list_of_component Component.entry) d (contents_at d)
unfolding contents_at
contents_tell d =
    tells_then (HasKeysInOrder d) (IsFaultOfValue (list_of_component Component.entry) d) _ (list_at (λ i. match_entry_at) d)
    (list_tells (Wanted.component Component.entry) d match_entry_at λ e below. entry_tells e)

match_tells : (d : Data) → TellsOf (HasKeysInOrder d) (FormFault match_layout d) (match_at d)
unfolding match_at key_text
match_tells d =
    object_tells match_layout d _ refl
    (field (list_at (λ i. contents_at)) _
    (λ e below. list_tells (list_of_component Component.entry) e contents_at λ x deep. contents_tell x) λ contents.
    field (word_at word.Match) _ (λ e below. word_tells word.Match e) λ u.
    field span_at _ (λ e below. span_tells e) λ span. done)

-- ---- extern blocks and imports

associated_tells : (d : Data) → Tells (Wanted.component Component.associated) d (associated_at d)
unfolding associated_at key_text
associated_tells d =
    component_told Component.associated d associated_layout _ refl
    (object_tells associated_layout d _ refl
    (field name_at _ (λ e below. name_tells e) λ name.
    field text_at _ (λ e below. text_tells e) λ text. done))

conversion_tells : (d : Data) → Tells (Wanted.component Component.conversion) d (conversion_at d)
unfolding conversion_at key_text
conversion_tells d =
    component_told Component.conversion d conversion_layout _ refl
    (object_tells conversion_layout d _ refl
    (field terminal_at _ (λ e below. terminal_tells e) λ terminal.
    field text_at _ (λ e below. text_tells e) λ pattern. done))

enumeration_tells : (d : Data) → Tells (Wanted.component Component.enumeration) d (enum_at d)
unfolding enum_at key_text
enumeration_tells d =
    component_told Component.enumeration d enumeration_layout _ refl
    (object_tells enumeration_layout d _ refl
    (field (list_at (λ i. conversion_at)) _
    (λ e below. list_tells (Wanted.component Component.conversion) e conversion_at λ x deep. conversion_tells x) λ conversions.
    field text_at _ (λ e below. text_tells e) λ text. done))

extern_tells : (d : Data) → TellsOf (HasKeysInOrder d) (FormFault extern_layout d) (extern_at d)
unfolding extern_at key_text
extern_tells d =
    object_tells extern_layout d _ refl
    (field (list_at (λ i. associated_at)) _
    (λ e below. list_tells (Wanted.component Component.associated) e associated_at λ x deep. associated_tells x) λ associated.
    field (optional enum_at) _ (λ e below. optional_tells (Wanted.component Component.enumeration) e enum_at (enumeration_tells e)) λ own.
    field (word_at word.Extern) _ (λ e below. word_tells word.Extern e) λ u.
    field span_at _ (λ e below. span_tells e) λ span. done)

import_tells : (d : Data) → TellsOf (HasKeysInOrder d) (FormFault import_layout d) (import_at d)
unfolding import_at key_text
import_tells d =
    object_tells import_layout d _ refl
    (field (word_at word.Use) _ (λ e below. word_tells word.Use e) λ u.
    field text_at _ (λ e below. text_tells e) λ text. done)

-- ---- items

item_of : Option Form → Option Layout
item_of (Some form.Extern) = Some extern_layout
item_of (Some form.Match) = Some match_layout
item_of (Some form.Rule) = Some rule_layout
item_of (Some form.Use) = Some import_layout
item_of _ = None

words_tell_items : WordsTell item_of item_forms item_words
unfolding word_text item_of
words_tell_items = (refl, (refl, (refl, (refl, tt))))

words_known : WordsKnown item_words item_forms
unfolding word_text
words_known = (refl, (refl, (refl, (refl, tt))))

-- the readers' rows, with that of `kind`
abbrev whole_rows : List (Key × Form)
whole_rows =
    (key.Alternatives, form.Rule) ∷ (key.Args, form.Rule) ∷ (key.Associated, form.Extern) ∷ (key.Attributes, form.Rule)
    ∷ (key.Contents, form.Match) ∷ (key.Enum, form.Extern) ∷ (key.Kind, form.Rule) ∷ (key.Name, form.Rule) ∷ (key.Span, form.Rule)
    ∷ (key.Text, form.Use) ∷ (key.DeclaredType, form.Rule) ∷ (key.Visibility, form.Rule) ∷ []

same_rows : SameRows item_of whole_rows (telling all_keys (map (λ r. r.1) item_forms))
unfolding key_text item_of
same_rows = refl

kind_left : (d : Data) → get (key_text key.Kind) d ≡ None → form_by_key whole_rows d ≡ form_by_key item_rows d
kind_left d none = rw none refl

item_told : (d : Data) → told_form Component.item d ≡ item_of (item_form d)
unfolding item_form item_of
item_told d = kinds_told item_of refl item_words item_rows whole_rows item_forms words_tell_items words_known same_rows kind_left d

by_item : (o : Option Form) (d : Data) → told_form Component.item d ≡ item_of o
    → Tells (Wanted.component Component.item) d (item_by o d)
unfolding item_of
by_item (Some form.Extern) d e =
    component_told Component.item d extern_layout _ e
    (tells_then (HasKeysInOrder d) (FormFault extern_layout d) _ (extern_at d) (extern_tells d))
by_item (Some form.Match) d e =
    component_told Component.item d match_layout _ e
    (tells_then (HasKeysInOrder d) (FormFault match_layout d) _ (match_at d) (match_tells d))
by_item (Some form.Rule) d e =
    component_told Component.item d rule_layout _ e (tells_then (HasKeysInOrder d) (FormFault rule_layout d) _ (rule_at d) (rule_tells d))
by_item (Some form.Use) d e = component_told Component.item d import_layout (import_at d) e (import_tells d)
by_item _ d e = component_untold Component.item d e

-- reading an item tells one of its faults, the first where keys are in order, or it has none
pub item_tells : (d : Data) → Tells (Wanted.component Component.item) d (item_at d)
unfolding item_at
item_tells d = by_item (item_form d) d (item_told d)

-- ---- rules and blocks by themselves

-- reading a rule by itself tells one of its faults, the first where keys are in order, or it has none
pub only_rule_tells : (d : Data) → Tells (Wanted.component Component.rule) d (rule_at d)
only_rule_tells d = component_told Component.rule d rule_layout (rule_at d) refl (rule_tells d)

-- reading a `match` block by itself tells one of its faults, the first where keys are in order, or it has none
pub only_match_tells : (d : Data) → Tells (Wanted.component Component.match_block) d (match_at d)
only_match_tells d = component_told Component.match_block d match_layout (match_at d) refl (match_tells d)

-- reading an `extern` block by itself tells one of its faults, the first where keys are in order, or it has none
pub only_extern_tells : (d : Data) → Tells (Wanted.component Component.extern_block) d (extern_at d)
only_extern_tells d = component_told Component.extern_block d extern_layout (extern_at d) refl (extern_tells d)

-- ---- grammars

-- reading a grammar tells one of its faults, the first where keys are in order, or it has none
pub grammar_tells : (d : Data) → Tells (Wanted.component Component.grammar) d (grammar_at d)
unfolding grammar_at key_text
grammar_tells d =
    component_told Component.grammar d grammar_layout _ refl
    (object_tells grammar_layout d _ refl
    (field (list_at (λ i. attribute_at)) _ (λ e below. attributes_tell e) λ attributes.
    field (list_at (λ i. item_at)) _
    (λ e below. list_tells (Wanted.component Component.item) e item_at λ x deep. item_tells x) λ listed.
    field text_at _ (λ e below. text_tells e) λ parameters.
    field span_at _ (λ e below. span_tells e) λ span.
    field text_at _ (λ e below. text_tells e) λ type_parameters.
    field text_at _ (λ e below. text_tells e) λ where_clauses. done))
