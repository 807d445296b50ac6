-- Types: what is read is spelled so, and what is spelled so is read; for the laws of grammars.
use Rattle.std.proofs.Common.{◌≡◌, ℕ, ◌+◌, Bool, false, is_some, List, [], ◌∷◌, map, Option, Some, None, Ok, true, refl}
use Rattle.std.proofs.Common.{ap, sym, ◌∙◌}
use Rattle.serde_json.specs.Data.{Data, string}
use Rattle.serde_json.specs.Find.{as_null}
use Rattle.serde_json.specs.View.{items_of}
use Rattle.lalrpop_grammar_symbols.specs.declared.symbol.Symbol.{Symbol}
use Rattle.lalrpop_grammar.specs.declared.types.type_ref.TypeRef.{TypeRef, fold-roll-TypeRef}
use Rattle.lalrpop_grammar.specs.declared.types.type_ref.TypeRef.TheOpen as layer
use Rattle.lalrpop_grammar.specs.declared.types.type_ref.TypeRef.TheVariants as types
use Rattle.lalrpop_json_values.specs.declared.fault.Step.TheVariants as step
use Rattle.lalrpop_json_values.specs.declared.form.Form.{Form}
use Rattle.lalrpop_json_values.specs.declared.form.Form.TheVariants as form
use Rattle.lalrpop_json_values.specs.declared.key.Key.TheVariants as key
use Rattle.lalrpop_json_values.specs.Forms.{form_by_key}
use Rattle.lalrpop_json_values.specs.Key.{key_text}
use Rattle.lalrpop_json_values.specs.Lists.{list_at, list_from}
use Rattle.lalrpop_json_values.specs.Nested.{Reader}
use Rattle.lalrpop_json_values.specs.Objects.{field_at, keys_at}
use Rattle.lalrpop_json_values.specs.Scalars.{flag_at, is_name, name_at, optional, text_at}
use Rattle.lalrpop_json_values.specs.Spelled.{EachFrom, IfSome, list_json, object_of, option_json}
use Rattle.lalrpop_json_values.proofs.ListLawLemmas.{list_takes}
use Rattle.lalrpop_json_values.proofs.NestingLemmas.{nested_takes}
use Rattle.lalrpop_json_values.proofs.ScalarLemmas.{flag_takes, name_takes, name_again, optional_text_takes, optional_text_again}
use Rattle.lalrpop_json_values.proofs.ScalarLemmas.{optional_takes, text_takes, text_again}
use Rattle.lalrpop_json_values.proofs.StepLemmas.{part, ok_same, object_ok}
use Rattle.lalrpop_json_symbols.specs.Readable.{IsReadableSymbol, IsReadableType, AreReadableTypes}
use Rattle.lalrpop_json_symbols.specs.Spelling.{nominal_json, ref_json, symbol_json, tuple_json, type_json, type_json_step}
use Rattle.lalrpop_json_symbols.specs.Symbols.{symbol_at}
use Rattle.lalrpop_json_symbols.specs.Types.{nominal_at, of_symbol_at, opaque_at, id_type_at, ref_at, tuple_at, type_at, type_by}
use Rattle.lalrpop_json_symbols.specs.Types.{type_layer_at, type_rows}
use Rattle.lalrpop_json_symbols.proofs.SymbolLemmas.{symbol_takes, symbol_again}
use Rattle.lalrpop_json_symbols.proofs.TypeNestingLemmas.{type_opened}

abbrev pub SpelledType : Data → TypeRef → Type 0
SpelledType d t = (d ≡ type_json t) × IsReadableType t

-- ---- how types are spelled

spelled-tuple : (ts : List TypeRef) → type_json (types.Tuple ts) ≡ tuple_json (list_json type_json ts)
spelled-tuple ts = ap type_json (sym (types.rolls-Tuple ts)) ∙ fold-roll-TypeRef Data type_json_step (layer.Tuple ts)

spelled-nominal : (path : List ℕ) (ts : List TypeRef) → type_json (types.Nominal path ts) ≡ nominal_json path (list_json type_json ts)
spelled-nominal path ts = ap type_json (sym (types.rolls-Nominal path ts)) ∙ fold-roll-TypeRef Data type_json_step (layer.Nominal path ts)

spelled-id : (n : List ℕ) → type_json (types.Id n) ≡ object_of ((key.Id, string n) ∷ [])
spelled-id n = ap type_json (sym (types.rolls-Id n)) ∙ fold-roll-TypeRef Data type_json_step (layer.Id n)

spelled-of_symbol : (x : Symbol) → type_json (types.OfSymbol x) ≡ object_of ((key.Symbol, symbol_json x) ∷ [])
spelled-of_symbol x = ap type_json (sym (types.rolls-OfSymbol x)) ∙ fold-roll-TypeRef Data type_json_step (layer.OfSymbol x)

spelled-ref : (lifetime : Option (List ℕ)) (mutable : Bool) (t : TypeRef)
    → type_json (types.Ref lifetime mutable t) ≡ ref_json lifetime mutable (type_json t)
spelled-ref lifetime mutable t =
    ap type_json (sym (types.rolls-Ref lifetime mutable t)) ∙ fold-roll-TypeRef Data type_json_step (layer.Ref lifetime mutable t)

spelled-opaque : (text : List ℕ) → type_json (types.Opaque text) ≡ object_of ((key.Text, string text) ∷ [])
spelled-opaque text = ap type_json (sym (types.rolls-Opaque text)) ∙ fold-roll-TypeRef Data type_json_step (layer.Opaque text)

-- ---- what is read

parameter_takes : (d : Data) (x : TypeRef) → id_type_at d ≡ Ok x → SpelledType d x
unfolding id_type_at field_at key_text
parameter_takes = object_ok (key.Id ∷ []) _ SpelledType λ fields x e.
    part (step.Key key.Id) (name_at fields.0) _ x e λ name named e.
    let named_is = name_takes fields.0 name named in
    rw (← ok_same (types.Id name) x e) (rw (named_is.0) (sym (spelled-id name)), IsReadableType.id name refl named_is.1)

of_symbol_takes : (d : Data) (x : TypeRef) → of_symbol_at d ≡ Ok x → SpelledType d x
unfolding of_symbol_at field_at key_text
of_symbol_takes = object_ok (key.Symbol ∷ []) _ SpelledType λ fields x e.
    part (step.Key key.Symbol) (symbol_at fields.0) _ x e λ symbol inner e.
    let inner_is = symbol_takes fields.0 symbol inner in
    rw (← ok_same (types.OfSymbol symbol) x e)
    (rw (inner_is.0) (sym (spelled-of_symbol symbol)), IsReadableType.of_symbol symbol refl inner_is.1)

opaque_takes : (d : Data) (x : TypeRef) → opaque_at d ≡ Ok x → SpelledType d x
unfolding opaque_at field_at key_text
opaque_takes = object_ok (key.Text ∷ []) _ SpelledType λ fields x e.
    part (step.Key key.Text) (text_at fields.0) _ x e λ text texts e.
    let texts_is = text_takes fields.0 text texts in
    rw (← ok_same (types.Opaque text) x e) (rw (texts_is) (sym (spelled-opaque text)), IsReadableType.opaque text refl)

are_from : (i : ℕ) (xs : List TypeRef) → EachFrom (λ _. IsReadableType) i xs → AreReadableTypes xs
are_from i [] each = AreReadableTypes.none
are_from i (x ∷ xs) each = AreReadableTypes.more each.0 (are_from (i + 1) xs each.1)

module _ (read : Reader TypeRef) (takes : (d : Data) (x : TypeRef) → read d ≡ Ok x → SpelledType d x) where
  all_take : (d : Data) (xs : List TypeRef) → list_at (λ _. read) d ≡ Ok xs → (d ≡ list_json type_json xs) × AreReadableTypes xs
  all_take d xs e = let all = list_takes (λ _. read) type_json (λ _. IsReadableType) (λ _. takes) d xs e in (all.0, are_from 0 xs all.1)

  tuple_takes : (d : Data) (x : TypeRef) → tuple_at read d ≡ Ok x → SpelledType d x
  unfolding tuple_at field_at key_text
  tuple_takes = object_ok (key.Tuple ∷ []) _ SpelledType λ fields x e.
      part (step.Key key.Tuple) (list_at (λ _. read) fields.0) _ x e λ parts inner e.
      let inner_is = all_take fields.0 parts inner in
      rw (← ok_same (types.Tuple parts) x e) (rw (inner_is.0) (sym (spelled-tuple parts)), IsReadableType.tuple parts refl inner_is.1)

  nominal_takes : (d : Data) (x : TypeRef) → nominal_at read d ≡ Ok x → SpelledType d x
  unfolding nominal_at field_at key_text
  nominal_takes = object_ok (key.Args ∷ key.Path ∷ []) _ SpelledType λ fields x e.
      part (step.Key key.Args) (list_at (λ _. read) fields.0) _ x e λ parts inner e.
      part (step.Key key.Path) (text_at fields.1.0) _ x e λ path texts e.
      let inner_is = all_take fields.0 parts inner in
      let texts_is = text_takes fields.1.0 path texts in
      rw (← ok_same (types.Nominal path parts) x e)
      (rw (inner_is.0, texts_is) (sym (spelled-nominal path parts)), IsReadableType.nominal path parts refl inner_is.1)

  ref_takes : (d : Data) (x : TypeRef) → ref_at read d ≡ Ok x → SpelledType d x
  unfolding ref_at field_at key_text
  ref_takes = object_ok (key.Lifetime ∷ key.Mutable ∷ key.Ref ∷ []) _ SpelledType λ fields x e.
      part (step.Key key.Lifetime) (optional text_at fields.0) _ x e λ lifetime texts e.
      part (step.Key key.Mutable) (flag_at fields.1.0) _ x e λ mutable flag e.
      part (step.Key key.Ref) (read fields.1.1.0) _ x e λ referent inner e.
      let texts_is = optional_text_takes fields.0 lifetime texts in
      let flag_is = flag_takes fields.1.0 mutable flag in
      let inner_is = takes fields.1.1.0 referent inner in
      rw (← ok_same (types.Ref lifetime mutable referent) x e) (
        rw (texts_is, flag_is, inner_is.0) (sym (spelled-ref lifetime mutable referent)),
        IsReadableType.ref lifetime mutable referent refl inner_is.1,
      )

  by_told : (f : Option Form) (d : Data) (x : TypeRef) → type_by f read d ≡ Ok x → SpelledType d x
  by_told (Some form.Id) d x e = parameter_takes d x e
  by_told (Some form.Nominal) d x e = nominal_takes d x e
  by_told (Some form.Ref) d x e = ref_takes d x e
  by_told (Some form.Symbol) d x e = of_symbol_takes d x e
  by_told (Some form.Text) d x e = opaque_takes d x e
  by_told (Some form.Tuple) d x e = tuple_takes d x e
  by_told _ d x e = absurd (cc)

  form_takes : (d : Data) (x : TypeRef) → type_layer_at read d ≡ Ok x → SpelledType d x
  unfolding type_layer_at
  form_takes d x e = by_told (form_by_key type_rows d) d x e

pub type_takes : (d : Data) (x : TypeRef) → type_at d ≡ Ok x → SpelledType d x
unfolding type_at
type_takes = nested_takes type_layer_at SpelledType form_takes

-- a value that is read as a type or none is its JSON, and a type has a spelling
pub optional_type_takes : (d : Data) (o : Option TypeRef) → optional type_at d ≡ Ok o → (d ≡ option_json type_json o)
    × IfSome IsReadableType o
optional_type_takes = optional_takes type_at type_json IsReadableType type_takes

-- ---- what is spelled

parameter_again : (n : List ℕ) → is_name n ≡ true → type_at (object_of ((key.Id, string n) ∷ [])) ≡ Ok (types.Id n)
unfolding type_layer_at id_type_at keys_at field_at key_text
parameter_again n h0 = type_opened (object_of ((key.Id, string n) ∷ [])) ∙ rw (name_again n h0) refl

of_symbol_again : (x : Symbol) → IsReadableSymbol x → type_at (object_of ((key.Symbol, symbol_json x) ∷ [])) ≡ Ok (types.OfSymbol x)
unfolding type_layer_at of_symbol_at keys_at field_at key_text
of_symbol_again x h0 = type_opened (object_of ((key.Symbol, symbol_json x) ∷ [])) ∙ rw (symbol_again x h0) refl

opaque_again : (text : List ℕ) → type_at (object_of ((key.Text, string text) ∷ [])) ≡ Ok (types.Opaque text)
unfolding type_layer_at opaque_at keys_at field_at key_text
opaque_again text = type_opened (object_of ((key.Text, string text) ∷ [])) ∙ rw (text_again text) refl

tuple_again : (ts : List TypeRef) → list_from (λ _. type_at) 0 (items_of (map type_json ts)) ≡ Ok ts
    → type_at (tuple_json (list_json type_json ts)) ≡ Ok (types.Tuple ts)
unfolding type_layer_at tuple_at keys_at field_at key_text list_at
tuple_again ts h0 = type_opened (tuple_json (list_json type_json ts)) ∙ rw (h0) refl

nominal_again : (path : List ℕ) (ts : List TypeRef) → list_from (λ _. type_at) 0 (items_of (map type_json ts)) ≡ Ok ts
    → type_at (nominal_json path (list_json type_json ts)) ≡ Ok (types.Nominal path ts)
unfolding type_layer_at nominal_at keys_at field_at key_text list_at
nominal_again path ts h0 = type_opened (nominal_json path (list_json type_json ts)) ∙ rw (h0, text_again path) refl

ref_again : (lifetime : Option (List ℕ)) (mutable : Bool) (t : TypeRef) → type_at (type_json t) ≡ Ok t
    → type_at (ref_json lifetime mutable (type_json t)) ≡ Ok (types.Ref lifetime mutable t)
unfolding type_layer_at ref_at keys_at field_at key_text flag_at
ref_again lifetime mutable t h0 = type_opened (ref_json lifetime mutable (type_json t)) ∙ rw (optional_text_again lifetime, h0) refl

mutual
  pub type_again : (t : TypeRef) → IsReadableType t → type_at (type_json t) ≡ Ok t
  type_again t (IsReadableType.tuple ts e are) = rw (e, spelled-tuple ts) (tuple_again ts (types_from_again 0 ts are))
  type_again t (IsReadableType.nominal path ts e are) = rw (e, spelled-nominal path ts) (nominal_again path ts (types_from_again 0 ts are))
  type_again t (IsReadableType.id n e is) = rw (e, spelled-id n) (parameter_again n is)
  type_again t (IsReadableType.of_symbol x e is) = rw (e, spelled-of_symbol x) (of_symbol_again x is)
  type_again t (IsReadableType.ref lifetime mutable u e is) =
      rw (e, spelled-ref lifetime mutable u) (ref_again lifetime mutable u (type_again u is))
  type_again t (IsReadableType.opaque text e) = rw (e, spelled-opaque text) (opaque_again text)

  types_from_again : (i : ℕ) (ts : List TypeRef) → AreReadableTypes ts
      → list_from (λ _. type_at) i (items_of (map type_json ts)) ≡ Ok ts
  types_from_again i [] AreReadableTypes.none = refl
  types_from_again i (t ∷ ts) (AreReadableTypes.more is are) = rw (type_again t is, types_from_again (i + 1) ts are) refl

-- no type is spelled `null`
is_written : (t : TypeRef) → IsReadableType t → is_some (as_null (type_json t)) ≡ false
is_written t (IsReadableType.tuple ts e are) = rw (e, spelled-tuple ts) refl
is_written t (IsReadableType.nominal path ts e are) = rw (e, spelled-nominal path ts) refl
is_written t (IsReadableType.id n e is) = rw (e, spelled-id n) refl
is_written t (IsReadableType.of_symbol x e is) = rw (e, spelled-of_symbol x) refl
is_written t (IsReadableType.ref lifetime mutable u e is) = rw (e, spelled-ref lifetime mutable u) refl
is_written t (IsReadableType.opaque text e) = rw (e, spelled-opaque text) refl

-- the JSON of a type that has a spelling, or of none, is read as that
pub optional_type_again : (o : Option TypeRef) → IfSome IsReadableType o → optional type_at (option_json type_json o) ≡ Ok o
optional_type_again None is = refl
optional_type_again (Some t) is = rw (is_written t is, type_again t is) refl
