-- Grammars: what is read is spelled so, and what is spelled so is read; for read_grammar and grammar_laws.
use Rattle.std.proofs.Common.{◌≡◌, ℕ, List, [], ◌∷◌, Result, Ok, Err, refl, ap, ◌∙◌, subst, IfOk}
use Rattle.serde_json.specs.Data.{Data, string, object}
use Rattle.lalrpop_grammar_symbols.specs.declared.span.Span.{Span}
use Rattle.lalrpop_grammar.specs.declared.types.attribute.Attribute.{Attribute}
use Rattle.lalrpop_grammar.specs.declared.grammar.Grammar.{Grammar}
use Rattle.lalrpop_grammar.specs.declared.grammar.GrammarItem.{GrammarItem}
use Rattle.lalrpop_json_values.specs.declared.key.Key.{Key}
use Rattle.lalrpop_json_values.specs.declared.key.Key.TheVariants as key
use Rattle.lalrpop_json_values.specs.declared.fault.Fault.{Fault}
use Rattle.lalrpop_json_values.specs.declared.fault.ReadError.{ReadError}
use Rattle.lalrpop_json_values.specs.declared.fault.Step.TheVariants as step
use Rattle.lalrpop_json_values.specs.Gives.{Gives}
use Rattle.lalrpop_json_values.specs.Key.{key_text}
use Rattle.lalrpop_json_values.specs.Lists.{list_at}
use Rattle.lalrpop_json_values.specs.Objects.{field_at, keys_at}
use Rattle.lalrpop_json_values.specs.Scalars.{span_at, text_at}
use Rattle.lalrpop_json_values.specs.Spelled.{EachFrom, IsSpan, list_json, span_json}
use Rattle.lalrpop_json_values.proofs.ScalarLemmas.{span_takes, span_again, text_takes}
use Rattle.lalrpop_json_values.proofs.StepLemmas.{part, ok_same, object_ok, Fields, filled}
use Rattle.lalrpop_json_symbols.specs.Attributes.{attribute_at}
use Rattle.lalrpop_json_symbols.specs.Readable.{AreReadableAttributes}
use Rattle.lalrpop_json_symbols.specs.Spelling.{attribute_json}
use Rattle.lalrpop_json_symbols.proofs.AttributeLemmas.{attributes_take, attributes_again}
use Rattle.lalrpop_json_items.specs.Items.{item_at}
use Rattle.lalrpop_json_items.specs.Readable.{IsReadableItem}
use Rattle.lalrpop_json_items.specs.Spelling.{item_json}
use Rattle.lalrpop_json_items.proofs.ItemLemmas.{items_take, items_again}
use Rattle.lalrpop_json_values.specs.Prefix.{IsFreePrefix, longest_of, prefix_past}
use Rattle.lalrpop_json_values.specs.Strings.{strings}
use Rattle.lalrpop_json_values.proofs.PrefixRunLemmas.{free_prefix, only_prefix}
use Rattle.lalrpop_json_grammar.specs.Grammars.{grammar_at}
use Rattle.lalrpop_json_grammar.specs.Laws.{Spells}
use Rattle.lalrpop_json_grammar.specs.Readable.{IsReadable}
use Rattle.lalrpop_json_grammar.specs.Spelling.{spelling, texts_of}

-- ---- what is read

abbrev grammar_keys : List Key
grammar_keys = key.Attributes ∷ key.Items ∷ key.Parameters ∷ key.Span ∷ key.TypeParameters ∷ key.WhereClauses ∷ []

-- the grammar of these parts
abbrev made : List ℕ → List Attribute → List GrammarItem → List ℕ → Span → List ℕ → List ℕ → Grammar
made prefix attributes items parameters span type_parameters where_clauses =
    record {
      prefix = prefix;
      span = span;
      parameters = parameters;
      type_parameters = type_parameters;
      where_clauses = where_clauses;
      attributes = attributes;
      items = items;
    }

-- what spells the grammar leaves it one prefix
with_prefix : (d : Data) (g : Grammar) → d ≡ spelling g → g.prefix ≡ prefix_past (longest_of (strings d)) → IsSpan g.span
    → AreReadableAttributes g.attributes
    → EachFrom (λ _. IsReadableItem) 0 g.items → Spells d g
with_prefix d g e p span attributes items =
    let own : g.prefix ≡ prefix_past (longest_of (texts_of g)) = p ∙ ap (λ x. prefix_past (longest_of (strings x))) e in
    (e, record { prefix = rw own (free_prefix (texts_of g)); span = span; attributes = attributes; items = items })

grammar_joined : (fields : Fields grammar_keys) (attributes : List Attribute) (items : List GrammarItem) (parameters : List ℕ)
    (span : Span)
    (type_parameters where_clauses : List ℕ) (g : Grammar)
    → (fields.0 ≡ list_json attribute_json attributes) × AreReadableAttributes attributes
    → (fields.1.0 ≡ list_json item_json items) × EachFrom (λ _. IsReadableItem) 0 items
    → fields.1.1.0 ≡ string parameters → (fields.1.1.1.0 ≡ span_json span) × IsSpan span
    → fields.1.1.1.1.0 ≡ string type_parameters → fields.1.1.1.1.1.0 ≡ string where_clauses
    → made (prefix_past (longest_of (strings (object (filled grammar_keys fields))))) attributes items parameters span type_parameters
    where_clauses ≡ g
    → Spells (object (filled grammar_keys fields)) g
grammar_joined fields attributes items parameters span type_parameters where_clauses g attributed listed texts spanned types clauses e =
    let prefix = prefix_past (longest_of (strings (object (filled grammar_keys fields)))) in
    let whole = made prefix attributes items parameters span type_parameters where_clauses in
    let spelled : object (filled grammar_keys fields) ≡ spelling whole =
    rw (attributed.0, listed.0, texts, spanned.0, types, clauses) refl in
    rw (← e) (with_prefix (object (filled grammar_keys fields)) whole spelled refl spanned.1 attributed.1 listed.1)

-- a value that is read as a grammar spells that grammar
pub grammar_takes : (d : Data) (g : Grammar) → grammar_at d ≡ Ok g → Spells d g
unfolding grammar_at field_at key_text
grammar_takes = object_ok grammar_keys _ Spells λ fields g e.
    part (step.Key key.Attributes) (list_at (λ _. attribute_at) fields.0) _ g e λ attributes attributed e.
    part (step.Key key.Items) (list_at (λ _. item_at) fields.1.0) _ g e λ items listed e.
    part (step.Key key.Parameters) (text_at fields.1.1.0) _ g e λ parameters texts e.
    part (step.Key key.Span) (span_at fields.1.1.1.0) _ g e λ span spanned e.
    part (step.Key key.TypeParameters) (text_at fields.1.1.1.1.0) _ g e λ type_parameters types e.
    part (step.Key key.WhereClauses) (text_at fields.1.1.1.1.1.0) _ g e λ where_clauses clauses e.
    grammar_joined fields attributes items parameters span type_parameters where_clauses g (attributes_take fields.0 attributes attributed)
    (items_take fields.1.0 items listed) (text_takes fields.1.1.0 parameters texts) (span_takes fields.1.1.1.0 span spanned)
    (text_takes fields.1.1.1.1.0 type_parameters types) (text_takes fields.1.1.1.1.1.0 where_clauses clauses) (ok_same _ g e)

-- ---- what is spelled

renamed : (g : Grammar) (prefix : List ℕ) → g.prefix ≡ prefix
    → made prefix g.attributes g.items g.parameters g.span g.type_parameters g.where_clauses ≡ g
renamed g prefix e = rw (← e) refl

-- the spelling of a grammar that has one is read as that grammar
pub grammar_again : (g : Grammar) → IsReadable g → grammar_at (spelling g) ≡ Ok g
unfolding grammar_at keys_at field_at key_text text_at
grammar_again g is =
    rw (attributes_again g.attributes is.attributes, items_again g.items is.items, span_again g.span is.span)
    (ap Ok (renamed g (prefix_past (longest_of (texts_of g))) (only_prefix (texts_of g) g.prefix is.prefix)))

-- ---- what a reader answers

-- the value spells the grammar that a reader answers
pub gives_spelled : (r : Result Grammar ReadError) (d : Data) → Gives r (grammar_at d) → IfOk r (λ g. Spells d g)
gives_spelled (Ok g) d h = grammar_takes d g h
gives_spelled (Err e) d h = tt

-- the grammar that a reader answers has a free prefix
pub gives_prefix : (r : Result Grammar ReadError) (d : Data) → Gives r (grammar_at d)
    → IfOk r (λ g. IsFreePrefix (texts_of g) g.prefix)
gives_prefix (Ok g) d h = (grammar_takes d g h).1.prefix
gives_prefix (Err e) d h = tt

-- a grammar that the value spells is what a reader answers, unless memory runs out
pub gives_found : (r : Result Grammar ReadError) (d : Data) → Gives r (grammar_at d) → (g : Grammar) → Spells d g → Gives r (Ok g)
gives_found r d h g spelled =
    let read : grammar_at d ≡ Ok g = ap grammar_at spelled.0 ∙ grammar_again g spelled.1 in
    let P : Result Grammar Fault → Type 0 = λ x. Gives r x in
    subst P read h
