use Rattle.std.proofs.Common.{◌≡◌, map, drop}
use Rattle.lalrpop_grammar.specs.Views.{attribute_view}
use Rattle.lalrpop_grammar_language.specs.Enabled.{has_attr}
use Rattle.lalrpop_norm_prevalidate.proofs.blocks.has_attribute.Given as goal

abbrev pub invariant-loop-attribute : goal.invariant-loop-attribute
invariant-loop-attribute l =
    has_attr l.id (map attribute_view (drop l.attribute-index l.attributes))
    ≡ has_attr l.id (map attribute_view l.attributes)
