use Rattle.std.proofs.Common.{◌≡◌}
use Rattle.std.specs.Prelude.{flat_map}
use Rattle.lalrpop_grammar_symbols.specs.SubsymbolsLeft.{subsymbols_left}
use Rattle.lalrpop_grammar_symbols.specs.SymbolWalks.{symbols_view}
use Rattle.lalrpop_norm_prevalidate.specs.Firsts.{first_of}
use Rattle.lalrpop_norm_prevalidate.specs.Labels.{labels_in_group, labels_in_groups}
use Rattle.lalrpop_norm_prevalidate.proofs.labels.first_label_in_groups.Given as goal

abbrev pub invariant-loop-symbol : goal.invariant-loop-symbol
invariant-loop-symbol l =
    first_of (flat_map labels_in_group (subsymbols_left l.symbol-iterator))
    ≡ first_of (labels_in_groups (symbols_view l.symbols))
