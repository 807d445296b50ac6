use Rattle.std.proofs.Common.{◌≡◌, map, drop}
use Rattle.std.specs.Prelude.{flat_map}
use Rattle.lalrpop_grammar.specs.Views.{type_view, tys}
use Rattle.lalrpop_norm_theory.specs.Premises.{symbols_of_types}
use Rattle.lalrpop_norm_theory.specs.NameFaults.{name_faults_in}
use Rattle.lalrpop_norm_resolve.specs.NameViews.{scope_names, scope_parameters}
use Rattle.lalrpop_norm_resolve.proofs.TypeLemmas.{faults_in_type}
use Rattle.lalrpop_norm_resolve.proofs.names.types.+check_types.Given as goal

abbrev pub invariant-check_types-loop-written : goal.invariant-check_types-loop-written
invariant-check_types-loop-written l =
    name_faults_in (scope_names l.scope) (scope_parameters l.scope) (symbols_of_types (tys (map type_view l.types)))
    ≡ flat_map (faults_in_type (scope_names l.scope) (scope_parameters l.scope)) (map type_view (drop l.written-index l.types))
