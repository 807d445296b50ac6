use Rattle.std.proofs.Common.{◌≡◌, map, drop}
use Rattle.std.specs.Prelude.{flat_map}
use Rattle.lalrpop_grammar.specs.Views.{alternative_view}
use Rattle.lalrpop_norm_theory.specs.NameFaults.{name_faults_in_alternative}
use Rattle.lalrpop_norm_resolve.specs.NameViews.{scope_names, scope_parameters}
use Rattle.lalrpop_norm_resolve.proofs.names.faults.check_alternatives.Given as goal

abbrev pub invariant-loop-alternative : goal.invariant-loop-alternative
invariant-loop-alternative l =
    flat_map (name_faults_in_alternative (scope_names l.scope) (scope_parameters l.scope)) (map alternative_view l.alternatives)
    ≡ flat_map (name_faults_in_alternative (scope_names l.scope) (scope_parameters l.scope))
    (map alternative_view (drop l.alternative-index l.alternatives))
