use Rattle.std.proofs.Common.{◌≡◌, map, drop}
use Rattle.std.specs.List.{list_any}
use Rattle.lalrpop_grammar.specs.Views.{alternative_view}
use Rattle.lalrpop_norm_precedence.specs.LevelSearch.{says_level}
use Rattle.lalrpop_norm_precedence.proofs.level_faults.faults.one_says_level.Given as goal

abbrev pub invariant-loop-alternative : goal.invariant-loop-alternative
invariant-loop-alternative l =
    list_any says_level (map alternative_view l.alternatives)
    ≡ list_any says_level (map alternative_view (drop l.alternative-index l.alternatives))
