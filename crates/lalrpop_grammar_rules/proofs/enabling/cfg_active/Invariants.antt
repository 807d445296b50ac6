use Rattle.std.proofs.Common.{◌≡◌, map, drop}
use Rattle.lalrpop_grammar_language.specs.Enabled.{is_active}
use Rattle.lalrpop_grammar.specs.Views.{attribute_view}
use Rattle.lalrpop_grammar_rules.proofs.enabling.cfg_active.Given as goal

abbrev pub invariant-loop-attribute : goal.invariant-loop-attribute
invariant-loop-attribute l =
    is_active l.features (map attribute_view l.attributes)
    ≡ is_active l.features (map attribute_view (drop l.attribute-index l.attributes))
