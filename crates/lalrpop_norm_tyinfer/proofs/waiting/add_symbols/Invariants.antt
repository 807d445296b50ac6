use Rattle.std.proofs.Common.{◌≡◌, ◌++◌, drop, map}
use Rattle.std.specs.Prelude.{filter, flat_map}
use Rattle.lalrpop_grammar_symbols.specs.Views.{symbol_view}
use Rattle.lalrpop_norm_tyinfer.specs.NamedRules.{names_found, rules_in_symbol}
use Rattle.lalrpop_norm_tyinfer.specs.TypesByTable.{counts_for}
use Rattle.lalrpop_norm_tyinfer.specs.ProgramViews.{names_view}
use Rattle.lalrpop_norm_tyinfer.proofs.waiting.add_symbols.Given as goal

abbrev pub invariant-loop-symbol : goal.invariant-loop-symbol
invariant-loop-symbol l =
    names_found l.found.items ++ flat_map (rules_in_symbol (names_view l.names))
    (filter (counts_for l.chosen_only) (map symbol_view (drop l.symbol-index l.symbols)))
    ≡ names_found l.fn.found.items ++ flat_map (rules_in_symbol (names_view l.names))
    (filter (counts_for l.chosen_only) (map symbol_view l.symbols))
