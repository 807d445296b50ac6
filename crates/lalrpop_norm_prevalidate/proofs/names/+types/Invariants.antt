use Rattle.std.proofs.Common.{◌≡◌, map, drop}
use Rattle.lalrpop_grammar_symbols.specs.Views.{span_view}
use Rattle.lalrpop_grammar.specs.Views.{type_view, tys}
use Rattle.lalrpop_norm_prevalidate.specs.Names.{first_reserved, names_in_types}
use Rattle.lalrpop_norm_prevalidate.proofs.names.+types.Given as goal

abbrev pub invariant-reserved_in_types-loop-type_ref : goal.invariant-reserved_in_types-loop-type_ref
invariant-reserved_in_types-loop-type_ref l =
    first_reserved l.prefix (names_in_types (span_view l.span) (tys (map type_view (drop l.type_ref-index l.types))))
    ≡ first_reserved l.prefix (names_in_types (span_view l.span) (tys (map type_view l.types)))
