use Rattle.std.proofs.Common.{◌≡◌, map, take}
use Rattle.lalrpop_grammar.specs.Views.{type_view}
use Rattle.lalrpop_norm_theory.specs.Resolving.{resolved_type}
use Rattle.lalrpop_norm_resolve.specs.NameViews.{scope_names, scope_parameters}
use Rattle.lalrpop_norm_resolve.proofs.names.types.+resolved_types.Given as goal

abbrev pub invariant-resolved_types-loop-written : goal.invariant-resolved_types-loop-written
invariant-resolved_types-loop-written l =
    map type_view l.made
    ≡ map (resolved_type (scope_names l.scope) (scope_parameters l.scope)) (map type_view (take l.written-index l.types))
