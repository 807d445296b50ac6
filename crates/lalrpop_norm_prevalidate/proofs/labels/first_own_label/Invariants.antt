use Rattle.std.proofs.Common.{◌≡◌, map, drop}
use Rattle.std.specs.Prelude.{flat_map}
use Rattle.lalrpop_grammar_symbols.specs.Views.{symbol_view}
use Rattle.lalrpop_norm_prevalidate.specs.Firsts.{first_of}
use Rattle.lalrpop_norm_prevalidate.specs.Labels.{label_span}
use Rattle.lalrpop_norm_prevalidate.proofs.labels.first_own_label.Given as goal

abbrev pub invariant-loop-symbol : goal.invariant-loop-symbol
invariant-loop-symbol l =
    first_of (flat_map label_span (map symbol_view (drop l.symbol-index l.symbols)))
    ≡ first_of (flat_map label_span (map symbol_view l.symbols))
