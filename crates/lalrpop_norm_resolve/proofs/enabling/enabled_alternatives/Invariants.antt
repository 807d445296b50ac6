use Rattle.std.proofs.Common.{◌≡◌, ◌++◌, map}
use Rattle.std.specs.Vec.Iter.{into_iter_items}
use Rattle.lalrpop_grammar.specs.Views.{alternative_view}
use Rattle.lalrpop_norm_resolve.specs.Left.{enabled_alternatives}
use Rattle.lalrpop_norm_resolve.proofs.enabling.enabled_alternatives.Given as goal

abbrev pub invariant-loop-alternative : goal.invariant-loop-alternative
invariant-loop-alternative l =
    map alternative_view l.kept
    ++ enabled_alternatives l.session.features.items (map alternative_view (into_iter_items l.alternative-iterator))
    ≡ enabled_alternatives l.session.features.items (map alternative_view l.fn.alternatives)
