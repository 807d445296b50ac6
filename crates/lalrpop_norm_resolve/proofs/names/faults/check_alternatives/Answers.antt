use Rattle.std.proofs.Common.{◌≡◌, ◌∷◌, ◌+◌, ◌∙◌, ap, sym, map, drop}
use Rattle.std.proofs.lemmas.List.{drop_more}
use Rattle.std.specs.Prelude.{flat_map}
use Rattle.lalrpop_grammar.specs.Views.{alternative_view}
use Rattle.lalrpop_norm_theory.specs.NameFaults.{name_faults_in_alternative}
use Rattle.std.proofs.lemmas.Result.{err_from_is_err_and}
use Rattle.lalrpop_norm_resolve.specs.NameViews.{scope_names, scope_parameters}
use Rattle.lalrpop_norm_resolve.proofs.FaultListLemmas.{fault_next, none_next}
use Rattle.lalrpop_norm_resolve.proofs.names.faults.check_alternatives.Goals as goal

pub returns-in_err-check_alternative : goal.returns-in_err-check_alternative
returns-in_err-check_alternative c =
    let xs = c.args.alternatives.now in
    let i = c.loop-alternative.alternative-index in
    let x = c.alternative-item.result in
    let here : drop i xs ≡ x ∷ drop (i + 1) xs =
    drop_more xs i x c.loop-alternative-test.true ∙ ap (λ y. y ∷ drop (i + 1) xs) (sym c.alternative-item.is) in
    let f = name_faults_in_alternative (scope_names c.args.scope.now) (scope_parameters c.args.scope.now) in
    let p = err_from_is_err_and c.from_residual.result c.from_residual.ensures.1 in
    rw (p.1, p.2)
    (fault_next f (flat_map f (map alternative_view xs)) (map alternative_view (drop i xs)) (map alternative_view (drop (i + 1) xs))
    (alternative_view x) _ (ap (map alternative_view) here) c.loop-alternative.invariant c.in_err-check_alternative.ensures)

pub loop-alternative-preserved : goal.loop-alternative-preserved
loop-alternative-preserved c =
    let xs = c.args.alternatives.now in
    let i = c.loop-alternative.alternative-index in
    let x = c.alternative-item.result in
    let here : drop i xs ≡ x ∷ drop (i + 1) xs =
    drop_more xs i x c.loop-alternative-test.true ∙ ap (λ y. y ∷ drop (i + 1) xs) (sym c.alternative-item.is) in
    let f = name_faults_in_alternative (scope_names c.args.scope.now) (scope_parameters c.args.scope.now) in
    none_next f (flat_map f (map alternative_view xs)) (map alternative_view (drop i xs)) (map alternative_view (drop (i + 1) xs))
    (alternative_view x) (ap (map alternative_view) here) c.loop-alternative.invariant c.in_ok-check_alternative.ensures
