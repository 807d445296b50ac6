-- Extern blocks: what is read is spelled so, and what is spelled so is read; for the laws of grammars.
use Rattle.std.proofs.Common.{◌≡◌, List, [], ◌∷◌, Option, Ok, refl}
use Rattle.serde_json.specs.Data.{Data}
use Rattle.lalrpop_json_values.specs.declared.fault.Step.TheVariants as step
use Rattle.lalrpop_json_values.specs.declared.key.Key.TheVariants as key
use Rattle.lalrpop_json_values.specs.declared.word.Word.TheVariants as word
use Rattle.lalrpop_json_values.specs.Key.{key_text}
use Rattle.lalrpop_json_values.specs.Lists.{list_at}
use Rattle.lalrpop_json_values.specs.Objects.{field_at, keys_at}
use Rattle.lalrpop_json_values.specs.Scalars.{name_at, optional, span_at, text_at, word_at}
use Rattle.lalrpop_json_values.specs.Spelled.{EachFrom, IfSome, list_json, option_json}
use Rattle.lalrpop_json_values.specs.Word.{word_text}
use Rattle.lalrpop_json_values.proofs.ListLawLemmas.{list_takes, list_again}
use Rattle.lalrpop_json_values.proofs.ScalarLemmas.{name_takes, name_again, optional_takes, optional_again, span_takes, span_again}
use Rattle.lalrpop_json_values.proofs.ScalarLemmas.{text_takes, text_again, word_takes}
use Rattle.lalrpop_json_values.proofs.StepLemmas.{part, ok_same, object_ok}
use Rattle.lalrpop_grammar.specs.declared.extern_token.AssociatedType.{AssociatedType}
use Rattle.lalrpop_grammar.specs.declared.extern_token.Conversion.{Conversion}
use Rattle.lalrpop_grammar.specs.declared.extern_token.EnumToken.{EnumToken}
use Rattle.lalrpop_grammar.specs.declared.extern_token.ExternToken.{ExternToken}
use Rattle.lalrpop_json_symbols.specs.Literals.{terminal_at}
use Rattle.lalrpop_json_symbols.proofs.LiteralLemmas.{terminal_takes, terminal_again}
use Rattle.lalrpop_json_items.specs.Externs.{associated_at, conversion_at, enum_at, extern_at}
use Rattle.lalrpop_json_items.specs.Readable.{IsReadableAssociated, IsReadableConversion, IsReadableEnum, IsReadableExtern}
use Rattle.lalrpop_json_items.specs.Spelling.{associated_json, conversion_json, enum_json, extern_json}

abbrev SpelledAssociated : Data → AssociatedType → Type 0
SpelledAssociated d x = (d ≡ associated_json x) × IsReadableAssociated x

associated_takes : (d : Data) (x : AssociatedType) → associated_at d ≡ Ok x → SpelledAssociated d x
unfolding associated_at field_at key_text
associated_takes = object_ok (key.Name ∷ key.DeclaredType ∷ []) _ SpelledAssociated λ fields x e.
    part (step.Key key.Name) (name_at fields.0) _ x e λ name named e.
    part (step.Key key.DeclaredType) (text_at fields.1.0) _ x e λ text texts e.
    let named_is = name_takes fields.0 name named in
    let texts_is = text_takes fields.1.0 text texts in
    rw (← ok_same (record { name = name; type_text = text }) x e) (rw (named_is.0, texts_is) refl, named_is.1)

associated_again : (x : AssociatedType) → IsReadableAssociated x → associated_at (associated_json x) ≡ Ok x
unfolding associated_at keys_at field_at key_text
associated_again x is = rw (name_again x.name is, text_again x.type_text) refl

associateds_take : (d : Data) (xs : List AssociatedType) → list_at (λ _. associated_at) d ≡ Ok xs
    → (d ≡ list_json associated_json xs) × EachFrom (λ _. IsReadableAssociated) 0 xs
associateds_take = list_takes (λ _. associated_at) associated_json (λ _. IsReadableAssociated) (λ _. associated_takes)

associateds_again : (xs : List AssociatedType) → EachFrom (λ _. IsReadableAssociated) 0 xs
    → list_at (λ _. associated_at) (list_json associated_json xs) ≡ Ok xs
associateds_again = list_again (λ _. associated_at) associated_json (λ _. IsReadableAssociated) (λ _. associated_again)

abbrev SpelledConversion : Data → Conversion → Type 0
SpelledConversion d x = (d ≡ conversion_json x) × IsReadableConversion x

conversion_takes : (d : Data) (x : Conversion) → conversion_at d ≡ Ok x → SpelledConversion d x
unfolding conversion_at field_at key_text
conversion_takes = object_ok (key.From ∷ key.To ∷ []) _ SpelledConversion λ fields x e.
    part (step.Key key.From) (terminal_at fields.0) _ x e λ terminal term e.
    part (step.Key key.To) (text_at fields.1.0) _ x e λ pattern texts e.
    let term_is = terminal_takes fields.0 terminal term in
    let texts_is = text_takes fields.1.0 pattern texts in
    rw (← ok_same (record { from = terminal; to = pattern }) x e) (rw (term_is.0, texts_is) refl, term_is.1)

conversion_again : (x : Conversion) → IsReadableConversion x → conversion_at (conversion_json x) ≡ Ok x
unfolding conversion_at keys_at field_at key_text
conversion_again x is = rw (terminal_again x.from is, text_again x.to) refl

conversions_take : (d : Data) (xs : List Conversion) → list_at (λ _. conversion_at) d ≡ Ok xs → (d ≡ list_json conversion_json xs)
    × EachFrom (λ _. IsReadableConversion) 0 xs
conversions_take = list_takes (λ _. conversion_at) conversion_json (λ _. IsReadableConversion) (λ _. conversion_takes)

conversions_again : (xs : List Conversion) → EachFrom (λ _. IsReadableConversion) 0 xs
    → list_at (λ _. conversion_at) (list_json conversion_json xs) ≡ Ok xs
conversions_again = list_again (λ _. conversion_at) conversion_json (λ _. IsReadableConversion) (λ _. conversion_again)

abbrev SpelledEnum : Data → EnumToken → Type 0
SpelledEnum d x = (d ≡ enum_json x) × IsReadableEnum x

enum_takes : (d : Data) (x : EnumToken) → enum_at d ≡ Ok x → SpelledEnum d x
unfolding enum_at field_at key_text
enum_takes = object_ok (key.Conversions ∷ key.DeclaredType ∷ []) _ SpelledEnum λ fields x e.
    part (step.Key key.Conversions) (list_at (λ _. conversion_at) fields.0) _ x e λ conversions listed e.
    part (step.Key key.DeclaredType) (text_at fields.1.0) _ x e λ text texts e.
    let listed_is = conversions_take fields.0 conversions listed in
    let texts_is = text_takes fields.1.0 text texts in
    rw (← ok_same (record { conversions = conversions; type_text = text }) x e) (rw (listed_is.0, texts_is) refl, listed_is.1)

enum_again : (x : EnumToken) → IsReadableEnum x → enum_at (enum_json x) ≡ Ok x
unfolding enum_at keys_at field_at key_text
enum_again x is = rw (conversions_again x.conversions is, text_again x.type_text) refl

enums_take : (d : Data) (o : Option EnumToken) → optional enum_at d ≡ Ok o → (d ≡ option_json enum_json o)
    × IfSome IsReadableEnum o
enums_take = optional_takes enum_at enum_json IsReadableEnum enum_takes

enums_again : (o : Option EnumToken) → IfSome IsReadableEnum o → optional enum_at (option_json enum_json o) ≡ Ok o
enums_again = optional_again enum_at enum_json IsReadableEnum enum_again (λ x is. refl)

abbrev SpelledExtern : Data → ExternToken → Type 0
SpelledExtern d x = (d ≡ extern_json x) × IsReadableExtern x

-- a value that is read as an extern block is its JSON, and the block has a spelling
pub extern_takes : (d : Data) (x : ExternToken) → extern_at d ≡ Ok x → SpelledExtern d x
unfolding extern_at field_at key_text
extern_takes = object_ok (key.Associated ∷ key.Enum ∷ key.Kind ∷ key.Span ∷ []) _ SpelledExtern λ fields x e.
    part (step.Key key.Associated) (list_at (λ _. associated_at) fields.0) _ x e λ associated listed e.
    part (step.Key key.Enum) (optional enum_at fields.1.0) _ x e λ own tokens e.
    part (step.Key key.Kind) (word_at word.Extern fields.1.1.0) _ x e λ u kind e.
    part (step.Key key.Span) (span_at fields.1.1.1.0) _ x e λ span spanned e.
    let listed_is = associateds_take fields.0 associated listed in
    let tokens_is = enums_take fields.1.0 own tokens in
    let kind_is = word_takes word.Extern fields.1.1.0 u kind in
    let spanned_is = span_takes fields.1.1.1.0 span spanned in
    rw (← ok_same (record { span = span; associated_types = associated; enum_token = own }) x e) (
      rw (listed_is.0, tokens_is.0, kind_is, spanned_is.0) refl,
      record { associated = listed_is.1; own = tokens_is.1; span = spanned_is.1 },
    )

-- the JSON of an extern block that has a spelling is read as that block
pub extern_again : (x : ExternToken) → IsReadableExtern x → extern_at (extern_json x) ≡ Ok x
unfolding extern_at keys_at field_at key_text word_at word_text
extern_again x is = rw (associateds_again x.associated_types is.associated, enums_again x.enum_token is.own, span_again x.span is.span) refl
