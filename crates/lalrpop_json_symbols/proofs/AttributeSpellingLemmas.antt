-- Which attributes have a spelling, by what stands behind their names: for the functions that tell it.
use Rattle.std.proofs.Common.{◌≡◌, ◌↔◌, Bool, ℕ, ◌+◌, List, [], ◌∷◌, IsTrue, ap, sym, ◌∙◌}
use Rattle.lalrpop_grammar.specs.declared.types.attribute.Attribute.{Attribute}
use Rattle.lalrpop_grammar.specs.declared.types.attribute.AttributeArg.{AttributeArg}
use Rattle.lalrpop_grammar.specs.declared.types.attribute.AttributeArg.TheOpen as layer
use Rattle.lalrpop_grammar.specs.declared.types.attribute.AttributeArg.TheVariants as args
use Rattle.lalrpop_grammar.specs.declared.types.attribute.AttributeArg.TheViews.{out-Attribute, roll-out-Attribute, out-AttributeArg}
use Rattle.lalrpop_grammar.specs.declared.types.attribute.AttributeArg.TheViews.{roll-AttributeArg, out-roll-AttributeArg}
use Rattle.lalrpop_json_values.specs.Scalars.{is_name}
use Rattle.lalrpop_json_values.specs.Spelled.{EachFrom, IsSpan}
use Rattle.lalrpop_json_symbols.specs.Readable.{AreReadableAttributes, IsReadableAttribute, IsReadableArg}

-- ---- attributes

abbrev pub Whole : Attribute → Type 0
Whole a = IsTrue (is_name (out-Attribute a).id) × IsSpan (out-Attribute a).span × IsReadableArg (out-Attribute a).arg

pub attribute_parts : (a : Attribute) → IsReadableAttribute a → Whole a
attribute_parts a (IsReadableAttribute.attribute span n arg e is named spanned) = rw e (named, spanned, is)

pub attribute_whole : (a : Attribute) → IsTrue (is_name (out-Attribute a).id) → IsSpan (out-Attribute a).span
    → IsReadableArg (out-Attribute a).arg → IsReadableAttribute a
attribute_whole a named spanned is =
    IsReadableAttribute.attribute (out-Attribute a).span (out-Attribute a).id (out-Attribute a).arg (sym (roll-out-Attribute a)) is named
    spanned

pub ruleset attributes_told = (attribute_parts, attribute_whole)

-- ---- what stands behind a name

abbrev Layer : Type 0
Layer = layer.AttributeArg-F AttributeArg Attribute

abbrev Parts : Layer → Type 0
Parts layer.Empty = Unit {0}
Parts (layer.Paren parts) = AreReadableAttributes parts
Parts (layer.Equal text) = Unit {0}

layered : (l : Layer) (a b : AttributeArg) → a ≡ b → roll-AttributeArg l ≡ b → Parts l → Parts (out-AttributeArg a)
layered l a b e rolls is = rw (e, ← rolls, out-roll-AttributeArg l) is

argument_parts : (a : AttributeArg) → IsReadableArg a → Parts (out-AttributeArg a)
argument_parts a (IsReadableArg.empty e) = layered layer.Empty a _ e args.rolls-Empty tt
argument_parts a (IsReadableArg.paren parts e are) = layered (layer.Paren parts) a _ e (args.rolls-Paren parts) are
argument_parts a (IsReadableArg.equal text e) = layered (layer.Equal text) a _ e (args.rolls-Equal text) tt

opened : (l : Layer) (a b : AttributeArg) → a ≡ b → roll-AttributeArg l ≡ b → IsReadableArg a → Parts l
opened l a b e rolls is =
    let at_layer : out-AttributeArg a ≡ l = ap out-AttributeArg (e ∙ sym rolls) ∙ out-roll-AttributeArg l in
    rw at_layer at (argument_parts a is)

-- attributes in parentheses behind a name have a spelling where each of them has one
pub of_parts : (r : Bool) (a : AttributeArg) (parts : List Attribute) → a ≡ args.Paren parts
    → (IsTrue r ↔ AreReadableAttributes parts) → IsTrue r ↔ IsReadableArg a
of_parts r a parts e told =
    ((λ is. IsReadableArg.paren parts e (told.0 is)), (λ is. told.1 (opened (layer.Paren parts) a _ e (args.rolls-Paren parts) is)))

pub of_nothing : (a : AttributeArg) → a ≡ args.Empty → IsReadableArg a
of_nothing a e = IsReadableArg.empty e

pub of_text : (a : AttributeArg) (text : List ℕ) → a ≡ args.Equal text → IsReadableArg a
of_text a text e = IsReadableArg.equal text e

pub ruleset arguments_told = (of_nothing, of_text)

-- ---- lists of attributes

pub each_readable : (i : ℕ) (as_ : List Attribute) → AreReadableAttributes as_ → EachFrom (λ _. IsReadableAttribute) i as_
each_readable i [] AreReadableAttributes.none = tt
each_readable i (a ∷ as_) (AreReadableAttributes.more is are) = (is, each_readable (i + 1) as_ are)

pub all_readable : (i : ℕ) (as_ : List Attribute) → EachFrom (λ _. IsReadableAttribute) i as_ → AreReadableAttributes as_
all_readable i [] each = AreReadableAttributes.none
all_readable i (a ∷ as_) each = AreReadableAttributes.more each.0 (all_readable (i + 1) as_ each.1)

pub ruleset attribute_lists = (each_readable, all_readable)
