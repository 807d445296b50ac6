use Rattle.std.proofs.Common.{◌∙◌, ap, map, arith}
use Rattle.std.proofs.lemmas.List.{take_all}
use Rattle.lalrpop_grammar.specs.Views.{alternative_view}
use Rattle.lalrpop_norm_theory.specs.Resolving.{resolved_alternative}
use Rattle.lalrpop_norm_resolve.specs.NameViews.{scope_names, scope_parameters}
use Rattle.lalrpop_norm_resolve.proofs.names.rewriting.resolved_alternatives.Goals as goal

pub returns : goal.returns
returns c =
    let s = c.args.scope.now in
    c.loop-alternative.invariant
    ∙ ap (λ l. map (resolved_alternative (scope_names s) (scope_parameters s)) (map alternative_view l))
    (take_all c.loop-alternative.alternative-index c.args.alternatives.now (omega (arith, c.loop-alternative-test.false)))
