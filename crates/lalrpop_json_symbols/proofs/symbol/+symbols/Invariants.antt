use Rattle.std.proofs.Common.{◌+◌, ◌*◌}
use Rattle.serde_json.specs.Data.{depth}
use Rattle.lalrpop_json_document.specs.DocumentViews.{view}
use Rattle.lalrpop_json_symbols.specs.Symbols.{symbol_at}
use Rattle.lalrpop_json_values.proofs.ListReadingLemmas.{IsAt}
use Rattle.lalrpop_json_symbols.proofs.symbol.+symbols.Given as goal

abbrev pub decreases-group_of : goal.decreases-group_of
decreases-group_of l = 4 * depth (view l.value.now) + 1

abbrev pub decreases-macro_of : goal.decreases-macro_of
decreases-macro_of l = 4 * depth (view l.value.now) + 1

abbrev pub decreases-repeat_of : goal.decreases-repeat_of
decreases-repeat_of l = 4 * depth (view l.value.now) + 1

abbrev pub decreases-choose_of : goal.decreases-choose_of
decreases-choose_of l = 4 * depth (view l.value.now) + 1

abbrev pub decreases-named_of : goal.decreases-named_of
decreases-named_of l = 4 * depth (view l.value.now) + 1

abbrev pub decreases-symbol_of : goal.decreases-symbol_of
decreases-symbol_of l = 4 * depth (view l.value.now) + 2

abbrev pub decreases-symbol_in : goal.decreases-symbol_in
decreases-symbol_in l = 4 * depth (view l.value.now) + 3

abbrev pub decreases-symbols_of : goal.decreases-symbols_of
decreases-symbols_of l = 4 * depth (view l.value.now) + 1

abbrev pub decreases-symbol_field : goal.decreases-symbol_field
decreases-symbol_field l = 4 * depth (view l.value.now)

abbrev pub decreases-symbols_field : goal.decreases-symbols_field
decreases-symbols_field l = 4 * depth (view l.value.now)

abbrev pub invariant-symbols_of-loop-index : goal.invariant-symbols_of-loop-index
invariant-symbols_of-loop-index l = IsAt (λ _. symbol_at) l.value-items l.symbols l.index
