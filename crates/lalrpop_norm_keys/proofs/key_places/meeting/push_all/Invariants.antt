use Rattle.std.proofs.Common.{◌≡◌, ◌++◌, map}
use Rattle.std.specs.Vec.Iter.{into_iter_items}
use Rattle.lalrpop_grammar_symbols.specs.Views.{span_view}
use Rattle.lalrpop_grammar_rules.specs.Views.{closed_view}
use Rattle.lalrpop_norm_keys.specs.MetKeys.{all_met_at}
use Rattle.lalrpop_norm_keys.specs.Views.{met_view}
use Rattle.lalrpop_norm_keys.proofs.key_places.meeting.push_all.Given as goal

abbrev pub invariant-loop-key : goal.invariant-loop-key
invariant-loop-key l =
    map met_view l.met ++ all_met_at (span_view l.span) (map closed_view (into_iter_items l.key-iterator))
    ≡ map met_view l.initial.met ++ all_met_at (span_view l.span) (map closed_view l.fn.keys)
