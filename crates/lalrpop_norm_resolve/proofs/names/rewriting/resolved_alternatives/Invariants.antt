use Rattle.std.proofs.Common.{◌≡◌, map, take}
use Rattle.lalrpop_grammar.specs.Views.{alternative_view}
use Rattle.lalrpop_norm_theory.specs.Resolving.{resolved_alternative}
use Rattle.lalrpop_norm_resolve.specs.NameViews.{scope_names, scope_parameters}
use Rattle.lalrpop_norm_resolve.proofs.names.rewriting.resolved_alternatives.Given as goal

abbrev pub invariant-loop-alternative : goal.invariant-loop-alternative
invariant-loop-alternative l =
    map alternative_view l.made
    ≡ map (resolved_alternative (scope_names l.scope) (scope_parameters l.scope))
    (map alternative_view (take l.alternative-index l.alternatives))
