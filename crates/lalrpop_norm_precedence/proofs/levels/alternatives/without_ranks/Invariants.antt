use Rattle.std.proofs.Common.{◌≡◌, ◌++◌, map, drop}
use Rattle.lalrpop_grammar.specs.Views.{attribute_view}
use Rattle.lalrpop_norm_theory.specs.LeveledGrammar.{without_ranks}
use Rattle.lalrpop_norm_precedence.proofs.levels.alternatives.without_ranks.Given as goal

abbrev pub invariant-loop-attribute : goal.invariant-loop-attribute
invariant-loop-attribute l =
    map attribute_view l.kept ++ without_ranks (map attribute_view (drop l.attribute-index l.attributes))
    ≡ without_ranks (map attribute_view l.attributes)
