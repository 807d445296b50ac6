use Rattle.std.proofs.Common.{◌≡◌, map, drop}
use Rattle.std.specs.Prelude.{None, option_map}
use Rattle.lalrpop_grammar.specs.Views.{alternative_view}
use Rattle.lalrpop_grammar_rules.specs.Ranks.{rank_view}
use Rattle.lalrpop_norm_precedence.specs.LevelSearch.{least_from}
use Rattle.lalrpop_norm_precedence.proofs.level_faults.faults.tightest.Given as goal

abbrev pub invariant-loop-alternative : goal.invariant-loop-alternative
invariant-loop-alternative l =
    least_from (option_map rank_view l.last) l.least (map alternative_view (drop l.alternative-index l.alternatives))
    ≡ least_from None None (map alternative_view l.alternatives)
