use Rattle.std.proofs.Common.{◌≡◌, drop, map}
use Rattle.std.specs.Prelude.{filter}
use Rattle.lalrpop_grammar_symbols.specs.Views.{symbol_view}
use Rattle.lalrpop_norm_tyinfer.specs.TypesByTable.{counts_for, each_ground_type, symbol_ground_type}
use Rattle.lalrpop_norm_tyinfer.specs.ProgramViews.{names_view, rule_types}
use Rattle.lalrpop_norm_tyinfer.proofs.FrontLemmas.{behind_types}
use Rattle.lalrpop_norm_tyinfer.proofs.ground.counted_types.Given as goal

abbrev pub invariant-loop-symbol : goal.invariant-loop-symbol
invariant-loop-symbol l =
    behind_types l.found (each_ground_type (map (symbol_ground_type (names_view l.names) (rule_types l.table))
    (filter (counts_for l.chosen_only) (map symbol_view (drop l.symbol-index l.symbols)))))
    ≡ each_ground_type (map (symbol_ground_type (names_view l.names) (rule_types l.table))
    (filter (counts_for l.chosen_only) (map symbol_view l.symbols)))
