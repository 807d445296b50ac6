use Rattle.std.proofs.Common.{◌∙◌, ap, map, arith}
use Rattle.std.proofs.lemmas.List.{take_all}
use Rattle.lalrpop_grammar.specs.Views.{type_view, tys}
use Rattle.lalrpop_norm_theory.specs.Resolving.{resolved_type}
use Rattle.lalrpop_norm_resolve.specs.NameViews.{scope_names, scope_parameters}
use Rattle.lalrpop_norm_resolve.proofs.TypeLemmas.{resolved_types-each}
use Rattle.lalrpop_norm_resolve.proofs.names.types.+resolved_types.Goals as goal

pub resolved_types-returns : goal.resolved_types-returns
resolved_types-returns t c =
    let d = scope_names c.args.scope.now in
    let ps = scope_parameters c.args.scope.now in
    ap tys (c.loop-written.invariant ∙ ap (λ l. map (resolved_type d ps) (map type_view l))
    (take_all c.loop-written.written-index c.args.types.now (omega (arith, c.loop-written-test.false))))
    ∙ resolved_types-each d ps (map type_view c.args.types.now)
