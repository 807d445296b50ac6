use Rattle.std.proofs.Common.{◌≡◌, ◌++◌, map, drop}
use Rattle.lalrpop_grammar_symbols.specs.Views.{symbol_view}
use Rattle.lalrpop_grammar_language.specs.Closing.{close_list}
use Rattle.lalrpop_grammar_rules.specs.Scopes.{scope_view}
use Rattle.lalrpop_grammar_rules.specs.Views.{closed_view}
use Rattle.lalrpop_grammar_rules.proofs.closed.closing.close_each.Given as goal

abbrev pub invariant-loop-symbol : goal.invariant-loop-symbol
invariant-loop-symbol l =
    close_list (scope_view l.scope) 0 (map symbol_view l.symbols)
    ≡ map closed_view l.side ++ close_list (scope_view l.scope) l.count (map symbol_view (drop l.symbol-index l.symbols))
