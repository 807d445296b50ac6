use Rattle.std.proofs.Common.{◌∙◌, ap, map, arith}
use Rattle.std.proofs.lemmas.List.{take_all}
use Rattle.lalrpop_grammar_symbols.specs.Views.{symbol_view}
use Rattle.lalrpop_norm_theory.specs.Resolving.{resolved_symbol}
use Rattle.lalrpop_norm_resolve.specs.NameViews.{scope_names, scope_parameters}
use Rattle.lalrpop_norm_resolve.proofs.names.rewriting.resolved_symbols.Goals as goal

pub returns : goal.returns
returns c =
    let s = c.args.scope.now in
    c.loop-symbol.invariant
    ∙ ap (λ l. map (resolved_symbol (scope_names s) (scope_parameters s)) (map symbol_view l))
    (take_all c.loop-symbol.symbol-index c.args.symbols.now (omega (arith, c.loop-symbol-test.false)))
