use Rattle.std.proofs.Common.{◌≡◌, map, drop}
use Rattle.lalrpop_grammar.specs.Views.{attribute_view, attrs}
use Rattle.lalrpop_norm_prevalidate.specs.Attributes.{are_predicates}
use Rattle.lalrpop_norm_prevalidate.proofs.attributes.+predicates.Given as goal

abbrev pub invariant-are_predicates-loop-part : goal.invariant-are_predicates-loop-part
invariant-are_predicates-loop-part l =
    are_predicates (attrs (map attribute_view (drop l.part-index l.parts))) ≡ are_predicates (attrs (map attribute_view l.parts))
