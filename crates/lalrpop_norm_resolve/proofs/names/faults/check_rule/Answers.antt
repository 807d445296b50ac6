use Rattle.std.proofs.Common.{map}
use Rattle.std.specs.Prelude.{flat_map, option_map}
use Rattle.std.proofs.lemmas.Result.{err_from_is_err_and}
use Rattle.lalrpop_grammar.specs.Views.{alternative_view, type_view}
use Rattle.lalrpop_norm_theory.specs.NameFaults.{name_faults_in_alternative, name_faults_in_declared}
use Rattle.lalrpop_norm_resolve.specs.NameViews.{scope_names, scope_parameters}
use Rattle.lalrpop_norm_resolve.proofs.FaultListLemmas.{fault_in_front}
use Rattle.lalrpop_norm_resolve.proofs.names.faults.check_rule.Goals as goal

pub returns-in_err-check_declared : goal.returns-in_err-check_declared
returns-in_err-check_declared c =
    let s = c.args.scope.now in
    let p = err_from_is_err_and c.from_residual.result c.from_residual.ensures.1 in
    rw (p.1, p.2)
    (fault_in_front (name_faults_in_declared (scope_names s) (scope_parameters s) (option_map type_view s.rule.now.type_decl))
    (flat_map (name_faults_in_alternative (scope_names s) (scope_parameters s)) (map alternative_view s.rule.now.alternatives)) _
    c.in_err-check_declared.ensures)
