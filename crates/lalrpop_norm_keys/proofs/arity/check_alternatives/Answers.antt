use Rattle.std.proofs.Common.{◌≡◌, ◌∷◌, ◌+◌, ◌∙◌, ap, sym, map, drop}
use Rattle.std.proofs.lemmas.List.{drop_more}
use Rattle.std.proofs.lemmas.Result.{err_from_is_err_and}
use Rattle.std.specs.Prelude.{flat_map}
use Rattle.lalrpop_grammar.specs.Views.{alternative_view}
use Rattle.lalrpop_grammar_rules.specs.RuleTable.{rules_view}
use Rattle.lalrpop_norm_keys.specs.Arity.{arity_faults_at}
use Rattle.lalrpop_norm_keys.proofs.ArityLemmas.{arity_next, no_arity_next}
use Rattle.lalrpop_norm_keys.proofs.arity.check_alternatives.Goals as goal

pub returns-in_err-check_symbols : goal.returns-in_err-check_symbols
returns-in_err-check_symbols c =
    let xs = c.args.alternatives.now in
    let i = c.loop-alternative.alternative-index in
    let x = c.alternative-item.result in
    let here : drop i xs ≡ x ∷ drop (i + 1) xs =
    drop_more xs i x c.loop-alternative-test.true ∙ ap (λ y. y ∷ drop (i + 1) xs) (sym c.alternative-item.is) in
    let f = arity_faults_at (rules_view c.args.rules.now) in
    let p = err_from_is_err_and c.from_residual.result c.from_residual.ensures.1 in
    rw (p.1, p.2)
    (arity_next f (flat_map f (map alternative_view xs)) (map alternative_view (drop i xs)) (map alternative_view (drop (i + 1) xs))
    (alternative_view x) _ (ap (map alternative_view) here) c.loop-alternative.invariant
    (rw c.as_slice.ensures at c.in_err-check_symbols.ensures))

pub loop-alternative-preserved : goal.loop-alternative-preserved
loop-alternative-preserved c =
    let xs = c.args.alternatives.now in
    let i = c.loop-alternative.alternative-index in
    let x = c.alternative-item.result in
    let here : drop i xs ≡ x ∷ drop (i + 1) xs =
    drop_more xs i x c.loop-alternative-test.true ∙ ap (λ y. y ∷ drop (i + 1) xs) (sym c.alternative-item.is) in
    let f = arity_faults_at (rules_view c.args.rules.now) in
    no_arity_next f (flat_map f (map alternative_view xs)) (map alternative_view (drop i xs)) (map alternative_view (drop (i + 1) xs))
    (alternative_view x) (ap (map alternative_view) here) c.loop-alternative.invariant
    (rw c.as_slice.ensures at c.in_ok-check_symbols.ensures)
