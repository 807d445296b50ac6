use Rattle.std.proofs.Common.{◌≡◌, ◌++◌, map, drop}
use Rattle.std.specs.Prelude.{None, option_map}
use Rattle.lalrpop_grammar.specs.Views.{alternative_view}
use Rattle.lalrpop_grammar_rules.specs.Ranks.{rank_view}
use Rattle.lalrpop_norm_precedence.proofs.RankLevelLemmas.{levels_from}
use Rattle.lalrpop_norm_precedence.proofs.level_names.order.written_levels.Given as goal

abbrev pub invariant-loop-alternative : goal.invariant-loop-alternative
invariant-loop-alternative l =
    levels_from None (map alternative_view l.alternatives)
    ≡ l.found.items ++ levels_from (option_map rank_view l.last) (map alternative_view (drop l.alternative-index l.alternatives))
