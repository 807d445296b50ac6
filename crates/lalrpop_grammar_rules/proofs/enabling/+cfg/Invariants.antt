use Rattle.std.proofs.Common.{◌≡◌, ◌&&◌, ◌||◌, map, drop}
use Rattle.lalrpop_grammar_language.specs.Enabled.{both, every_one, some_one}
use Rattle.lalrpop_grammar.specs.Views.{attribute_view, attrs}
use Rattle.lalrpop_grammar_rules.proofs.enabling.+cfg.Given as goal

abbrev pub invariant-value_of_all-loop-part : goal.invariant-value_of_all-loop-part
invariant-value_of_all-loop-part l =
    every_one l.features (attrs (map attribute_view l.parts))
    ≡ both (λ x y. x && y) l.holds (every_one l.features (attrs (map attribute_view (drop l.part-index l.parts))))

abbrev pub invariant-value_of_any-loop-part : goal.invariant-value_of_any-loop-part
invariant-value_of_any-loop-part l =
    some_one l.features (attrs (map attribute_view l.parts))
    ≡ both (λ x y. x || y) l.holds (some_one l.features (attrs (map attribute_view (drop l.part-index l.parts))))
