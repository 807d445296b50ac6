use Rattle.std.proofs.Common.{◌≡◌, ◌∷◌, ◌+◌, ◌∙◌, ap, sym, map, drop}
use Rattle.std.proofs.lemmas.List.{drop_more}
use Rattle.lalrpop_grammar.specs.Views.{type_view, tys}
use Rattle.lalrpop_norm_theory.specs.Premises.{symbols_of_types}
use Rattle.lalrpop_norm_theory.specs.NameFaults.{name_faults_in}
use Rattle.std.proofs.lemmas.Result.{err_from_is_err_and}
use Rattle.lalrpop_norm_resolve.specs.NameViews.{scope_names, scope_parameters}
use Rattle.lalrpop_norm_resolve.proofs.FaultListLemmas.{fault_next, none_next}
use Rattle.lalrpop_norm_resolve.proofs.TypeLemmas.{faults_in_type, faults_in_types}
use Rattle.lalrpop_norm_resolve.proofs.names.types.+check_types.Goals as goal

pub check_types-loop-written-init : goal.check_types-loop-written-init
check_types-loop-written-init t c =
    faults_in_types (scope_names c.args.scope.now) (scope_parameters c.args.scope.now) (map type_view c.args.types.now)

pub check_types-returns-in_err-check_type : goal.check_types-returns-in_err-check_type
check_types-returns-in_err-check_type t c =
    let xs = c.args.types.now in
    let i = c.loop-written.written-index in
    let x = c.written-item.result in
    let here : drop i xs ≡ x ∷ drop (i + 1) xs =
    drop_more xs i x c.loop-written-test.true ∙ ap (λ y. y ∷ drop (i + 1) xs) (sym c.written-item.is) in
    let d = scope_names c.args.scope.now in
    let ps = scope_parameters c.args.scope.now in
    let p = err_from_is_err_and c.from_residual.result c.from_residual.ensures.1 in
    rw (p.1, p.2)
    (fault_next (faults_in_type d ps) (name_faults_in d ps (symbols_of_types (tys (map type_view xs))))
    (map type_view (drop i xs)) (map type_view (drop (i + 1) xs))
    (type_view x) _ (ap (map type_view) here) c.loop-written.invariant c.in_err-check_type.ensures)

pub check_types-loop-written-preserved : goal.check_types-loop-written-preserved
check_types-loop-written-preserved t c =
    let xs = c.args.types.now in
    let i = c.loop-written.written-index in
    let x = c.written-item.result in
    let here : drop i xs ≡ x ∷ drop (i + 1) xs =
    drop_more xs i x c.loop-written-test.true ∙ ap (λ y. y ∷ drop (i + 1) xs) (sym c.written-item.is) in
    let d = scope_names c.args.scope.now in
    let ps = scope_parameters c.args.scope.now in
    none_next (faults_in_type d ps) (name_faults_in d ps (symbols_of_types (tys (map type_view xs))))
    (map type_view (drop i xs)) (map type_view (drop (i + 1) xs))
    (type_view x) (ap (map type_view) here) c.loop-written.invariant c.in_ok-check_type.ensures
