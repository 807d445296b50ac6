use Rattle.std.proofs.Common.{map, take}
use Rattle.lalrpop_grammar_symbols.specs.Views.{span_view}
use Rattle.lalrpop_grammar_rules.specs.Views.{closed_view}
use Rattle.lalrpop_norm_keys.specs.FirstPlaces.{AreKeySpans}
use Rattle.lalrpop_norm_keys.specs.Views.{met_view}
use Rattle.lalrpop_norm_keys.proofs.key_places.first.spans_of_keys.Given as goal

abbrev pub invariant-loop-key : goal.invariant-loop-key
invariant-loop-key l =
    AreKeySpans (map met_view l.met) (span_view l.otherwise) (map closed_view (take l.key-index l.keys)) (map span_view l.spans)
