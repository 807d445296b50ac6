-- The name and the text of an attribute of the form `name = "text"`.
use Rattle.std.specs.Prelude.{Option, Some, None, option_map}
use Rattle.std.specs.Borrow.{Bor}
use Rattle.lalrpop_grammar_symbols.specs.Symbols.{Text}
use Rattle.lalrpop_grammar.specs.declared.types.attribute.Attribute.{Attribute}
use Rattle.lalrpop_grammar.specs.declared.types.attribute.AttributeArg.{AttributeArg}
use Rattle.lalrpop_grammar.specs.declared.types.attribute.AttributeArg.TheOpen as layer
use Rattle.lalrpop_grammar.specs.declared.types.attribute.AttributeArg.TheViews.{out-Attribute, out-AttributeArg}

-- a pair of texts behind references
abbrev pub text_pair_view : Bor Text × Bor Text → Text × Text
text_pair_view p = (p.0.now, p.1.now)

abbrev pub equal_text : layer.AttributeArg-F AttributeArg Attribute → Option Text
equal_text layer.Empty = None
equal_text (layer.Paren parts) = None
equal_text (layer.Equal t) = Some t

abbrev pub equal_of : Attribute → Option (Text × Text)
equal_of a = option_map (λ t. ((out-Attribute a).id, t)) (equal_text (out-AttributeArg (out-Attribute a).arg))
