use Rattle.std.proofs.Common.{◌≡◌, map, drop}
use Rattle.std.specs.Prelude.{flat_map}
use Rattle.lalrpop_grammar.specs.Views.{alternative_view}
use Rattle.lalrpop_norm_prevalidate.specs.Names.{first_reserved, names_in_alternative}
use Rattle.lalrpop_norm_prevalidate.proofs.names.reserved_in_alternatives.Given as goal

abbrev pub invariant-loop-alternative : goal.invariant-loop-alternative
invariant-loop-alternative l =
    first_reserved l.prefix (flat_map names_in_alternative (map alternative_view (drop l.alternative-index l.alternatives)))
    ≡ first_reserved l.prefix (flat_map names_in_alternative (map alternative_view l.alternatives))
