use Rattle.std.proofs.Common.{◌≡◌, map, drop}
use Rattle.std.specs.Prelude.{flat_map}
use Rattle.lalrpop_grammar.specs.Views.{alternative_view}
use Rattle.lalrpop_norm_prevalidate.specs.Firsts.{first_of}
use Rattle.lalrpop_norm_prevalidate.specs.Attributes.{unknown_on_alternative}
use Rattle.lalrpop_norm_prevalidate.proofs.attributes.unknown_in_alternatives.Given as goal

abbrev pub invariant-loop-alternative : goal.invariant-loop-alternative
invariant-loop-alternative l =
    first_of (flat_map unknown_on_alternative (map alternative_view (drop l.alternative-index l.alternatives)))
    ≡ first_of (flat_map unknown_on_alternative (map alternative_view l.alternatives))
