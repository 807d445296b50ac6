-- Attributes: what is read is spelled so, and what is spelled so is read; for the laws of grammars.
use Rattle.std.proofs.Common.{◌≡◌, ℕ, ◌+◌, List, [], ◌∷◌, map, Option, Some, Ok, true, refl, ap, sym, ◌∙◌}
use Rattle.serde_json.specs.Data.{Data, null, boolean, number, string, array, object}
use Rattle.serde_json.specs.View.{items_of}
use Rattle.lalrpop_grammar_symbols.specs.declared.span.Span.{Span}
use Rattle.lalrpop_grammar.specs.declared.types.attribute.Attribute.{Attribute, fold-roll-Attribute}
use Rattle.lalrpop_grammar.specs.declared.types.attribute.AttributeArg.{AttributeArg, fold-roll-AttributeArg}
use Rattle.lalrpop_grammar.specs.declared.types.attribute.AttributeArg.TheOpen as layer
use Rattle.lalrpop_grammar.specs.declared.types.attribute.AttributeArg.TheVariants as args
use Rattle.lalrpop_json_values.specs.declared.fault.Step.TheVariants as step
use Rattle.lalrpop_json_values.specs.declared.form.Form.{Form}
use Rattle.lalrpop_json_values.specs.declared.form.Form.TheVariants as form
use Rattle.lalrpop_json_values.specs.declared.key.Key.TheVariants as key
use Rattle.lalrpop_json_values.specs.Forms.{form_by_key}
use Rattle.lalrpop_json_values.specs.Key.{key_text}
use Rattle.lalrpop_json_values.specs.Lists.{list_at, list_from}
use Rattle.lalrpop_json_values.specs.Nested.{Reader}
use Rattle.lalrpop_json_values.specs.Objects.{field_at, keys_at}
use Rattle.lalrpop_json_values.specs.Scalars.{is_name, name_at, span_at, text_at}
use Rattle.lalrpop_json_values.specs.Spelled.{EachFrom, IsSpan, list_json, object_of}
use Rattle.lalrpop_json_values.proofs.ListLawLemmas.{list_takes}
use Rattle.lalrpop_json_values.proofs.NestingLemmas.{nested_takes}
use Rattle.lalrpop_json_values.proofs.ScalarLemmas.{name_takes, name_again, span_takes, span_again, text_takes}
use Rattle.lalrpop_json_values.proofs.StepLemmas.{part, ok_same, object_ok}
use Rattle.lalrpop_json_symbols.specs.Attributes.{arg_at, arg_by, arg_rows, attribute_at, attribute_layer_at, attribute_of, equal_at}
use Rattle.lalrpop_json_symbols.specs.Attributes.{paren_at}
use Rattle.lalrpop_json_symbols.specs.Readable.{IsReadableAttribute, IsReadableArg, AreReadableAttributes}
use Rattle.lalrpop_json_symbols.specs.Spelling.{arg_json, arg_json_step, attribute_json, attribute_json_step, paren_json, shaped_json}
use Rattle.lalrpop_json_symbols.proofs.AttributeNestingLemmas.{attribute_opened}

abbrev pub SpelledAttribute : Data → Attribute → Type 0
SpelledAttribute d a = (d ≡ attribute_json a) × IsReadableAttribute a

abbrev SpelledArg : Data → AttributeArg → Type 0
SpelledArg d a = (d ≡ arg_json a) × IsReadableArg a

-- ---- how attributes are spelled

spelled : (span : Span) (name : List ℕ) (arg : AttributeArg)
    → attribute_json (attribute_of span name arg) ≡ shaped_json span name (arg_json arg)
spelled span name arg = fold-roll-Attribute Data Data arg_json_step attribute_json_step (record { span = span; id = name; arg = arg })

spelled-plain : arg_json args.Empty ≡ null
spelled-plain = ap arg_json (sym args.rolls-Empty) ∙ fold-roll-AttributeArg Data Data arg_json_step attribute_json_step layer.Empty

spelled-paren : (parts : List Attribute) → arg_json (args.Paren parts) ≡ paren_json (list_json attribute_json parts)
spelled-paren parts = ap arg_json (sym (args.rolls-Paren parts))
    ∙ fold-roll-AttributeArg Data Data arg_json_step attribute_json_step (layer.Paren parts)

spelled-equal : (text : List ℕ) → arg_json (args.Equal text) ≡ object_of ((key.Equal, string text) ∷ [])
spelled-equal text = ap arg_json (sym (args.rolls-Equal text))
    ∙ fold-roll-AttributeArg Data Data arg_json_step attribute_json_step (layer.Equal text)

-- ---- what is read

equal_takes : (d : Data) (x : AttributeArg) → equal_at d ≡ Ok x → SpelledArg d x
unfolding equal_at field_at key_text
equal_takes = object_ok (key.Equal ∷ []) _ SpelledArg λ fields x e.
    part (step.Key key.Equal) (text_at fields.0) _ x e λ text texts e.
    let texts_is = text_takes fields.0 text texts in
    rw (← ok_same (args.Equal text) x e) (rw (texts_is) (sym (spelled-equal text)), IsReadableArg.equal text refl)

are_from : (i : ℕ) (xs : List Attribute) → EachFrom (λ _. IsReadableAttribute) i xs → AreReadableAttributes xs
are_from i [] each = AreReadableAttributes.none
are_from i (x ∷ xs) each = AreReadableAttributes.more each.0 (are_from (i + 1) xs each.1)

module _ (read : Reader Attribute) (takes : (d : Data) (x : Attribute) → read d ≡ Ok x → SpelledAttribute d x) where
  all_take : (d : Data) (xs : List Attribute) → list_at (λ _. read) d ≡ Ok xs → (d ≡ list_json attribute_json xs)
      × AreReadableAttributes xs
  all_take d xs e = let all = list_takes (λ _. read) attribute_json (λ _. IsReadableAttribute) (λ _. takes) d xs e in
      (all.0, are_from 0 xs all.1)

  paren_takes : (d : Data) (x : AttributeArg) → paren_at read d ≡ Ok x → SpelledArg d x
  unfolding paren_at field_at key_text
  paren_takes = object_ok (key.Paren ∷ []) _ SpelledArg λ fields x e.
      part (step.Key key.Paren) (list_at (λ _. read) fields.0) _ x e λ parts inner e.
      let inner_is = all_take fields.0 parts inner in
      rw (← ok_same (args.Paren parts) x e) (rw (inner_is.0) (sym (spelled-paren parts)), IsReadableArg.paren parts refl inner_is.1)

  by_told : (f : Option Form) (d : Data) (x : AttributeArg) → arg_by f read d ≡ Ok x → SpelledArg d x
  by_told (Some form.Equal) d x e = equal_takes d x e
  by_told (Some form.Paren) d x e = paren_takes d x e
  by_told _ d x e = absurd (cc)

  arg_takes : (d : Data) (x : AttributeArg) → arg_at read d ≡ Ok x → SpelledArg d x
  unfolding arg_at
  arg_takes null x e = rw (← ok_same args.Empty x e) (sym spelled-plain, IsReadableArg.empty refl)
  arg_takes (boolean b) x e = by_told (form_by_key arg_rows (boolean b)) (boolean b) x e
  arg_takes (number n) x e = by_told (form_by_key arg_rows (number n)) (number n) x e
  arg_takes (string t) x e = by_told (form_by_key arg_rows (string t)) (string t) x e
  arg_takes (array ds) x e = by_told (form_by_key arg_rows (array ds)) (array ds) x e
  arg_takes (object ms) x e = by_told (form_by_key arg_rows (object ms)) (object ms) x e

  form_takes : (d : Data) (x : Attribute) → attribute_layer_at read d ≡ Ok x → SpelledAttribute d x
  unfolding attribute_layer_at field_at key_text
  form_takes = object_ok (key.Arg ∷ key.Id ∷ key.Span ∷ []) _ SpelledAttribute λ fields x e.
      part (step.Key key.Arg) (arg_at read fields.0) _ x e λ arg inner e.
      part (step.Key key.Id) (name_at fields.1.0) _ x e λ name named e.
      part (step.Key key.Span) (span_at fields.1.1.0) _ x e λ span spanned e.
      let inner_is = arg_takes fields.0 arg inner in
      let named_is = name_takes fields.1.0 name named in
      let spanned_is = span_takes fields.1.1.0 span spanned in
      rw (← ok_same (attribute_of span name arg) x e) (
        rw (inner_is.0, named_is.0, spanned_is.0) (sym (spelled span name arg)),
        IsReadableAttribute.attribute span name arg refl inner_is.1 named_is.1 spanned_is.1,
      )

pub attribute_takes : (d : Data) (x : Attribute) → attribute_at d ≡ Ok x → SpelledAttribute d x
unfolding attribute_at
attribute_takes = nested_takes attribute_layer_at SpelledAttribute form_takes

-- a value that is read as attributes is their JSON, and each of them has a spelling
pub attributes_take : (d : Data) (xs : List Attribute) → list_at (λ _. attribute_at) d ≡ Ok xs → (d ≡ list_json attribute_json xs)
    × AreReadableAttributes xs
attributes_take = all_take attribute_at attribute_takes

-- ---- what is spelled

paren_again : (parts : List Attribute) → list_from (λ _. attribute_at) 0 (items_of (map attribute_json parts)) ≡ Ok parts
    → arg_at attribute_at (paren_json (list_json attribute_json parts)) ≡ Ok (args.Paren parts)
unfolding arg_at paren_at keys_at field_at list_at key_text
paren_again parts below = rw below refl

equal_again : (text : List ℕ) → arg_at attribute_at (object_of ((key.Equal, string text) ∷ [])) ≡ Ok (args.Equal text)
unfolding arg_at equal_at keys_at field_at key_text text_at
equal_again text = refl

plain_again : arg_at attribute_at null ≡ Ok args.Empty
unfolding arg_at
plain_again = refl

shaped_again : (span : Span) (name : List ℕ) (arg : AttributeArg) → arg_at attribute_at (arg_json arg) ≡ Ok arg
    → is_name name ≡ true → IsSpan span
    → attribute_at (shaped_json span name (arg_json arg)) ≡ Ok (attribute_of span name arg)
unfolding attribute_layer_at keys_at field_at key_text
shaped_again span name arg inner named spanned =
    attribute_opened (shaped_json span name (arg_json arg)) ∙ rw (inner, name_again name named, span_again span spanned) refl

mutual
  pub attribute_again : (a : Attribute) → IsReadableAttribute a → attribute_at (attribute_json a) ≡ Ok a
  attribute_again a (IsReadableAttribute.attribute span name arg e is named spanned) =
      rw (e, spelled span name arg) (shaped_again span name arg (arg_again arg is) named spanned)

  arg_again : (a : AttributeArg) → IsReadableArg a → arg_at attribute_at (arg_json a) ≡ Ok a
  arg_again a (IsReadableArg.empty e) = rw (e, spelled-plain) plain_again
  arg_again a (IsReadableArg.paren parts e are) = rw (e, spelled-paren parts) (paren_again parts (attributes_from_again 0 parts are))
  arg_again a (IsReadableArg.equal text e) = rw (e, spelled-equal text) (equal_again text)

  attributes_from_again : (i : ℕ) (xs : List Attribute) → AreReadableAttributes xs
      → list_from (λ _. attribute_at) i (items_of (map attribute_json xs)) ≡ Ok xs
  attributes_from_again i [] AreReadableAttributes.none = refl
  attributes_from_again i (x ∷ xs) (AreReadableAttributes.more is are) =
      rw (attribute_again x is, attributes_from_again (i + 1) xs are) refl

-- the JSON of attributes that have a spelling is read as those attributes
pub attributes_again : (xs : List Attribute) → AreReadableAttributes xs
    → list_at (λ _. attribute_at) (list_json attribute_json xs) ≡ Ok xs
unfolding list_at
attributes_again xs are = attributes_from_again 0 xs are
