use Rattle.std.proofs.Common.{◌≡◌, map, drop}
use Rattle.std.specs.List.{list_any}
use Rattle.lalrpop_grammar_symbols.specs.Views.{symbol_view}
use Rattle.lalrpop_norm_prevalidate.specs.Labels.{is_choice}
use Rattle.lalrpop_norm_prevalidate.proofs.labels.has_choice.Given as goal

abbrev pub invariant-loop-symbol : goal.invariant-loop-symbol
invariant-loop-symbol l =
    list_any is_choice (map symbol_view (drop l.symbol-index l.symbols))
    ≡ list_any is_choice (map symbol_view l.symbols)
