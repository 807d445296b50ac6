use Rattle.std.proofs.Common.{◌≡◌, ◌++◌, drop, map}
use Rattle.lalrpop_grammar.specs.Views.{alternative_view}
use Rattle.lalrpop_norm_lower.specs.LoweredLists.{alternative_definitions}
use Rattle.lalrpop_norm_lower.proofs.actions.add_alternative_definitions.Given as goal

abbrev pub invariant-loop-alternative : goal.invariant-loop-alternative
invariant-loop-alternative l =
    l.made ++ alternative_definitions l.ty (map alternative_view (drop l.alternative-index l.alternatives))
    ≡ l.fn.made ++ alternative_definitions l.ty (map alternative_view l.alternatives)
