use Rattle.std.proofs.Common.{◌≡◌, map, drop}
use Rattle.lalrpop_grammar_symbols.specs.Views.{span_view}
use Rattle.lalrpop_norm_prevalidate.specs.Names.{first_reserved, at_span}
use Rattle.lalrpop_norm_prevalidate.proofs.names.reserved_in_parameters.Given as goal

abbrev pub invariant-loop-parameter : goal.invariant-loop-parameter
invariant-loop-parameter l =
    first_reserved l.prefix (at_span (span_view l.span) (map (λ n. n.0) (drop l.parameter-index l.parameters)))
    ≡ first_reserved l.prefix (at_span (span_view l.span) (map (λ n. n.0) l.parameters))
