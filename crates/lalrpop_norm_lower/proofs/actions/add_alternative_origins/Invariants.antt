use Rattle.std.proofs.Common.{◌≡◌, ◌++◌, drop, map}
use Rattle.lalrpop_grammar.specs.Views.{alternative_view, origin_view}
use Rattle.lalrpop_norm_lower.specs.LoweredLists.{alternative_origins}
use Rattle.lalrpop_norm_lower.proofs.actions.add_alternative_origins.Given as goal

abbrev pub invariant-loop-alternative : goal.invariant-loop-alternative
invariant-loop-alternative l =
    map origin_view l.made ++ alternative_origins (map alternative_view (drop l.alternative-index l.alternatives))
    ≡ map origin_view l.fn.made ++ alternative_origins (map alternative_view l.alternatives)
