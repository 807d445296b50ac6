use Rattle.std.proofs.Common.{◌≡◌, map, take}
use Rattle.lalrpop_grammar_symbols.specs.Views.{symbol_view}
use Rattle.lalrpop_norm_theory.specs.Resolving.{resolved_symbol}
use Rattle.lalrpop_norm_resolve.specs.NameViews.{scope_names, scope_parameters}
use Rattle.lalrpop_norm_resolve.proofs.names.rewriting.resolved_symbols.Given as goal

abbrev pub invariant-loop-symbol : goal.invariant-loop-symbol
invariant-loop-symbol l =
    map symbol_view l.made
    ≡ map (resolved_symbol (scope_names l.scope) (scope_parameters l.scope)) (map symbol_view (take l.symbol-index l.symbols))
