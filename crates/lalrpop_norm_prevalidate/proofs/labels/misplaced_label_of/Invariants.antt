use Rattle.std.proofs.Common.{◌≡◌, map, drop}
use Rattle.std.specs.Prelude.{flat_map}
use Rattle.lalrpop_grammar.specs.Views.{alternative_view}
use Rattle.lalrpop_norm_prevalidate.specs.Firsts.{first_of}
use Rattle.lalrpop_norm_prevalidate.specs.Labels.{misplaced_in_alternative}
use Rattle.lalrpop_norm_prevalidate.proofs.labels.misplaced_label_of.Given as goal

abbrev pub invariant-loop-alternative : goal.invariant-loop-alternative
invariant-loop-alternative l =
    first_of (flat_map misplaced_in_alternative (map alternative_view (drop l.alternative-index l.alternatives)))
    ≡ first_of (flat_map misplaced_in_alternative (map alternative_view l.alternatives))
