use Rattle.std.proofs.Common.{◌≡◌, map, drop}
use Rattle.lalrpop_grammar_symbols.specs.Views.{span_view}
use Rattle.lalrpop_grammar.specs.Views.{conversion_view}
use Rattle.lalrpop_norm_prevalidate.specs.Names.{first_reserved, names_in_conversions}
use Rattle.lalrpop_norm_prevalidate.proofs.names.reserved_in_conversions.Given as goal

abbrev pub invariant-loop-conversion : goal.invariant-loop-conversion
invariant-loop-conversion l =
    first_reserved l.prefix (names_in_conversions (span_view l.span) (map conversion_view (drop l.conversion-index l.conversions)))
    ≡ first_reserved l.prefix (names_in_conversions (span_view l.span) (map conversion_view l.conversions))
