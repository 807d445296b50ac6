-- Rules: what is read is spelled so, and what is spelled so is read; for the laws of grammars.
use Rattle.std.proofs.Common.{◌≡◌, ℕ, List, [], ◌∷◌, Option, Some, Ok, Err, Bool, true, false, cond, refl}
use Rattle.serde_json.specs.Data.{Data, null, boolean, number, string, array, object}
use Rattle.lalrpop_json_values.specs.declared.fault.FaultKind.TheVariants as fault
use Rattle.lalrpop_json_values.specs.declared.fault.Step.TheVariants as step
use Rattle.lalrpop_json_values.specs.declared.form.Form.{Form}
use Rattle.lalrpop_json_values.specs.declared.form.Form.TheVariants as form
use Rattle.lalrpop_json_values.specs.declared.key.Key.{Key}
use Rattle.lalrpop_json_values.specs.declared.key.Key.TheVariants as key
use Rattle.lalrpop_json_values.specs.declared.word.Word.TheVariants as word
use Rattle.lalrpop_json_values.specs.Forms.{form_by_key}
use Rattle.lalrpop_json_values.specs.Gives.{here}
use Rattle.lalrpop_json_values.specs.Key.{key_text}
use Rattle.lalrpop_json_values.specs.Lists.{list_at}
use Rattle.lalrpop_json_values.specs.Objects.{field_at, keys_at}
use Rattle.lalrpop_json_values.specs.Scalars.{is_name, is_word, name_at, optional, span_at, text_at, word_at}
use Rattle.lalrpop_json_values.specs.Spelled.{EachFrom, IfSome, IsSpan, list_json, option_json, span_json, word_json}
use Rattle.lalrpop_json_values.specs.Word.{word_text}
use Rattle.lalrpop_json_values.proofs.ListLawLemmas.{list_takes, list_again}
use Rattle.lalrpop_json_values.proofs.ScalarLemmas.{name_takes, name_again, span_takes, span_again, text_takes, word_is, word_takes}
use Rattle.lalrpop_json_values.proofs.StepLemmas.{bind_ok, part, Fields, filled, ok_same, object_ok}
use Rattle.lalrpop_grammar_symbols.specs.declared.names.NonterminalString.{NonterminalString}
use Rattle.lalrpop_grammar_symbols.specs.declared.span.Span.{Span}
use Rattle.lalrpop_grammar.specs.declared.nonterminal.NonterminalData.{NonterminalData}
use Rattle.lalrpop_grammar.specs.declared.nonterminal.Visibility.{Visibility}
use Rattle.lalrpop_grammar.specs.declared.nonterminal.Visibility.TheVariants as visible
use Rattle.lalrpop_grammar.specs.declared.alternative.Alternative.{Alternative}
use Rattle.lalrpop_grammar.specs.declared.types.attribute.Attribute.{Attribute}
use Rattle.lalrpop_grammar.specs.declared.types.type_ref.TypeRef.{TypeRef}
use Rattle.lalrpop_json_symbols.specs.Readable.{AreReadableAttributes, IsReadableType}
use Rattle.lalrpop_json_symbols.specs.Attributes.{attribute_at}
use Rattle.lalrpop_json_symbols.specs.Spelling.{attribute_json, type_json}
use Rattle.lalrpop_json_symbols.specs.Types.{type_at}
use Rattle.lalrpop_json_symbols.proofs.AttributeLemmas.{attributes_take, attributes_again}
use Rattle.lalrpop_json_symbols.proofs.TypeLemmas.{optional_type_takes, optional_type_again}
use Rattle.lalrpop_json_items.specs.Alternatives.{alternatives_at}
use Rattle.lalrpop_json_items.specs.Readable.{IsReadableAlternative, IsReadableParameter, IsReadableRule}
use Rattle.lalrpop_json_items.specs.Rules.{name_in, parameter_at, pub_in_at, rule_at, visibility_at, visibility_by, visibility_rows}
use Rattle.lalrpop_json_items.specs.Spelling.{alternative_json, parameter_json, rule_json, visibility_json}
use Rattle.lalrpop_json_items.proofs.AlternativeLemmas.{alternatives_take, alternatives_again}

-- ---- visibilities

abbrev SpelledVisibility : Data → Visibility → Type 0
SpelledVisibility d v = d ≡ visibility_json v

by_words : (a b : Bool) (t : List ℕ) (v : Visibility) → is_word word.Pub t ≡ a → is_word word.Priv t ≡ b
    → cond a (Ok visible.Pub) (cond b (Ok visible.Priv) (Err (here fault.WrongShape))) ≡ Ok v → SpelledVisibility (string t) v
by_words true b t v public private e = rw (← ok_same visible.Pub v e) (word_is word.Pub t public)
by_words false true t v public private e = rw (← ok_same visible.Priv v e) (word_is word.Priv t private)
by_words false false t v public private e = absurd (cc)

pub_in_takes : (d : Data) (x : Visibility) → pub_in_at d ≡ Ok x → SpelledVisibility d x
unfolding pub_in_at field_at key_text
pub_in_takes = object_ok (key.PubIn ∷ []) _ SpelledVisibility λ fields x e.
    part (step.Key key.PubIn) (text_at fields.0) _ x e λ path texts e.
    rw (← ok_same (visible.PubIn path) x e, text_takes fields.0 path texts) refl

by_told : (f : Option Form) (d : Data) (v : Visibility) → visibility_by f d ≡ Ok v → SpelledVisibility d v
by_told (Some form.PubIn) d v e = pub_in_takes d v e
by_told _ d v e = absurd (cc)

visibility_takes : (d : Data) (v : Visibility) → visibility_at d ≡ Ok v → SpelledVisibility d v
unfolding visibility_at
visibility_takes null v e = by_told (form_by_key visibility_rows null) null v e
visibility_takes (boolean b) v e = by_told (form_by_key visibility_rows (boolean b)) (boolean b) v e
visibility_takes (number n) v e = by_told (form_by_key visibility_rows (number n)) (number n) v e
visibility_takes (string t) v e = by_words (is_word word.Pub t) (is_word word.Priv t) t v refl refl e
visibility_takes (array ds) v e = by_told (form_by_key visibility_rows (array ds)) (array ds) v e
visibility_takes (object ms) v e = by_told (form_by_key visibility_rows (object ms)) (object ms) v e

visibility_again : (v : Visibility) → visibility_at (visibility_json v) ≡ Ok v
unfolding visibility_at pub_in_at keys_at field_at key_text text_at word_text
visibility_again visible.Pub = refl
visibility_again visible.Priv = refl
visibility_again (visible.PubIn path) = refl

-- ---- parameters

parameter_takes : (d : Data) (n : NonterminalString) → parameter_at d ≡ Ok n → (d ≡ parameter_json n) × IsReadableParameter n
unfolding parameter_at
parameter_takes d n e =
    let got = bind_ok (name_at d) _ n e in
    rw (← ok_same (record { 0 = got.0 }) n got.2) (name_takes d got.0 got.1)

parameter_again : (n : NonterminalString) → IsReadableParameter n → parameter_at (parameter_json n) ≡ Ok n
unfolding parameter_at
parameter_again n is = rw (name_again n.0 is) refl

parameters_take : (d : Data) (ns : List NonterminalString) → list_at (λ _. parameter_at) d ≡ Ok ns
    → (d ≡ list_json parameter_json ns) × EachFrom (λ _. IsReadableParameter) 0 ns
parameters_take = list_takes (λ _. parameter_at) parameter_json (λ _. IsReadableParameter) (λ _. parameter_takes)

parameters_again : (ns : List NonterminalString) → EachFrom (λ _. IsReadableParameter) 0 ns
    → list_at (λ _. parameter_at) (list_json parameter_json ns) ≡ Ok ns
parameters_again = list_again (λ _. parameter_at) parameter_json (λ _. IsReadableParameter) (λ _. parameter_again)

-- ---- rules

abbrev SpelledRule : Data → NonterminalData → Type 0
SpelledRule d r = (d ≡ rule_json r) × IsReadableRule r

abbrev rule_keys : List Key
rule_keys =
    key.Alternatives ∷ key.Args ∷ key.Attributes ∷ key.Kind ∷ key.Name ∷ key.Span ∷ key.DeclaredType ∷ key.Visibility ∷ []

-- the name that the alternatives belong to is the rule's
named_so : (fields : Fields rule_keys) (name : List ℕ) → fields.1.1.1.1.0 ≡ string name
    → name_in (object (filled rule_keys fields)) ≡ name
unfolding name_in key_text
named_so fields name e = rw e refl

rule_joined : (fields : Fields rule_keys) (own : List ℕ) (alternatives : List Alternative) (args : List NonterminalString)
    (attributes : List Attribute) (name : List ℕ) (span : Span)
    (declared : Option TypeRef) (visibility : Visibility) (r : NonterminalData)
    → own ≡ name → (fields.0 ≡ list_json alternative_json alternatives) × EachFrom (IsReadableAlternative own) 0 alternatives
    → (fields.1.0 ≡ list_json parameter_json args) × EachFrom (λ _. IsReadableParameter) 0 args
    → (fields.1.1.0 ≡ list_json attribute_json attributes) × AreReadableAttributes attributes
    → fields.1.1.1.0 ≡ word_json word.Rule → (fields.1.1.1.1.0 ≡ string name) × (is_name name ≡ true)
    → (fields.1.1.1.1.1.0 ≡ span_json span) × IsSpan span → (fields.1.1.1.1.1.1.0 ≡ option_json type_json declared)
    × IfSome IsReadableType declared
    → fields.1.1.1.1.1.1.1.0 ≡ visibility_json visibility
    → record {
      visibility = visibility;
      name = record { 0 = name };
      attributes = attributes;
      span = span;
      args = args;
      type_decl = declared;
      alternatives = alternatives;
    } ≡ r
    → SpelledRule (object (filled rule_keys fields)) r
rule_joined fields own alternatives args attributes name span declared visibility r same listed given attributed kind named spanned typed
    seen e =
    rw (← e) (
      rw (listed.0, given.0, attributed.0, kind, named.0, spanned.0, typed.0, seen) refl,
      record {
        name = named.1;
        attributes = attributed.1;
        span = spanned.1;
        args = given.1;
        declared = typed.1;
        alternatives = rw (← same) listed.1;
      },
    )

-- a value that is read as a rule is its JSON, and the rule has a spelling
pub rule_takes : (d : Data) (x : NonterminalData) → rule_at d ≡ Ok x → SpelledRule d x
unfolding rule_at field_at key_text
rule_takes = object_ok rule_keys _ SpelledRule λ fields x e.
    let own = name_in (object (filled rule_keys fields)) in
    part (step.Key key.Alternatives) (alternatives_at own fields.0) _ x e λ alternatives listed e.
    part (step.Key key.Args) (list_at (λ _. parameter_at) fields.1.0) _ x e λ args given e.
    part (step.Key key.Attributes) (list_at (λ _. attribute_at) fields.1.1.0) _ x e λ attributes attributed e.
    part (step.Key key.Kind) (word_at word.Rule fields.1.1.1.0) _ x e λ u kind e.
    part (step.Key key.Name) (name_at fields.1.1.1.1.0) _ x e λ name named e.
    part (step.Key key.Span) (span_at fields.1.1.1.1.1.0) _ x e λ span spanned e.
    part (step.Key key.DeclaredType) (optional type_at fields.1.1.1.1.1.1.0) _ x e λ declared typed e.
    part (step.Key key.Visibility) (visibility_at fields.1.1.1.1.1.1.1.0) _ x e λ visibility seen e.
    let is_named = name_takes fields.1.1.1.1.0 name named in
    rule_joined fields own alternatives args attributes name span declared visibility x (named_so fields name is_named.0)
    (alternatives_take own fields.0 alternatives listed) (parameters_take fields.1.0 args given)
    (attributes_take fields.1.1.0 attributes attributed) (word_takes word.Rule fields.1.1.1.0 u kind) is_named
    (span_takes fields.1.1.1.1.1.0 span spanned) (optional_type_takes fields.1.1.1.1.1.1.0 declared typed)
    (visibility_takes fields.1.1.1.1.1.1.1.0 visibility seen) (ok_same _ x e)

-- the JSON of a rule that has a spelling is read as that rule
pub rule_again : (r : NonterminalData) → IsReadableRule r → rule_at (rule_json r) ≡ Ok r
unfolding rule_at keys_at field_at key_text name_in word_at word_text
rule_again r is =
    rw (
      alternatives_again r.name.0 r.alternatives is.alternatives,
      parameters_again r.args is.args,
      attributes_again r.attributes is.attributes,
      name_again r.name.0 is.name,
      span_again r.span is.span,
      optional_type_again r.type_decl is.declared,
      visibility_again r.visibility,
    )
    refl
