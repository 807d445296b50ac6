use Rattle.std.proofs.Common.{map, take}
use Rattle.lalrpop_grammar_symbols.specs.Views.{span_view}
use Rattle.lalrpop_norm_keys.specs.Tables.{IsKeyIndex, table_keys}
use Rattle.lalrpop_norm_keys.specs.FirstPlaces.{TellFirst}
use Rattle.lalrpop_norm_keys.specs.Views.{met_view}
use Rattle.lalrpop_norm_keys.proofs.key_places.first.first_places.Given as goal

abbrev pub invariant-loop-each : goal.invariant-loop-each
invariant-loop-each l = IsKeyIndex l.first.keys
    × TellFirst (map met_view (take l.each-index l.met)) (table_keys l.first.keys) (map span_view l.first.spans)
