use Rattle.std.proofs.Common.{◌≡◌, map, take}
use Rattle.lalrpop_grammar.specs.Views.{alternative_view}
use Rattle.lalrpop_norm_precedence.specs.NamedAlternatives.{alternative_by_naming, naming_view, ranked_alternative_view}
use Rattle.lalrpop_norm_precedence.proofs.levels.alternatives.leveled_alternatives.Given as goal

abbrev pub invariant-loop-alternative : goal.invariant-loop-alternative
invariant-loop-alternative l =
    map alternative_view l.made
    ≡ map (alternative_by_naming (naming_view l.names)) (map ranked_alternative_view (take l.alternative-index l.ranked))
