use Rattle.std.proofs.Common.{◌≡◌, map, drop}
use Rattle.std.specs.List.{list_any}
use Rattle.lalrpop_grammar.specs.Views.{alternative_view}
use Rattle.lalrpop_grammar_rules.specs.Details.{is_leveled}
use Rattle.lalrpop_grammar_rules.proofs.rule.has_levels.Given as goal

abbrev pub invariant-loop-alternative : goal.invariant-loop-alternative
invariant-loop-alternative l =
    list_any (is_leveled l.features) (map alternative_view l.alternatives)
    ≡ list_any (is_leveled l.features) (map alternative_view (drop l.alternative-index l.alternatives))
