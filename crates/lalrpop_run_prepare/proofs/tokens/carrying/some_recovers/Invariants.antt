use Rattle.std.proofs.Common.{◌≡◌, map, drop}
use Rattle.std.specs.List.{list_any}
use Rattle.lalrpop_grammar.specs.Views.{alternative_view}
use Rattle.lalrpop_run_prepare.specs.RecoverySearch.{alternative_recovers}
use Rattle.lalrpop_run_prepare.proofs.tokens.carrying.some_recovers.Given as goal

abbrev pub invariant-loop-alternative : goal.invariant-loop-alternative
invariant-loop-alternative l =
    list_any (alternative_recovers l.features) (map alternative_view l.alternatives)
    ≡ list_any (alternative_recovers l.features) (map alternative_view (drop l.alternative-index l.alternatives))
