use Rattle.std.proofs.Common.{◌≡◌, drop, map}
use Rattle.std.specs.List.{list_any}
use Rattle.lalrpop_grammar_symbols.specs.Views.{symbol_view}
use Rattle.lalrpop_norm_tyinfer.specs.TypesByTable.{is_chosen_symbol}
use Rattle.lalrpop_norm_tyinfer.proofs.ground.has_chosen.Given as goal

abbrev pub invariant-loop-symbol : goal.invariant-loop-symbol
invariant-loop-symbol l =
    list_any is_chosen_symbol (map symbol_view l.symbols) ≡ list_any is_chosen_symbol (map symbol_view (drop l.symbol-index l.symbols))
