use Rattle.std.proofs.Common.{◌≡◌, map, drop}
use Rattle.lalrpop_grammar.specs.Views.{attribute_view}
use Rattle.lalrpop_grammar_language.specs.Levels.{first_attr}
use Rattle.lalrpop_grammar_rules.proofs.levels.first_named.Given as goal

abbrev pub invariant-loop-attribute : goal.invariant-loop-attribute
invariant-loop-attribute l =
    first_attr l.id (map attribute_view l.attributes) ≡ first_attr l.id (map attribute_view (drop l.attribute-index l.attributes))
