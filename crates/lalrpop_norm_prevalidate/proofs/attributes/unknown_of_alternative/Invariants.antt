use Rattle.std.proofs.Common.{◌≡◌, map, drop}
use Rattle.std.specs.Prelude.{not, filter}
use Rattle.lalrpop_grammar.specs.Views.{attribute_view}
use Rattle.lalrpop_norm_prevalidate.specs.Firsts.{first_of}
use Rattle.lalrpop_norm_prevalidate.specs.Attributes.{fits_alternative}
use Rattle.lalrpop_norm_prevalidate.proofs.attributes.unknown_of_alternative.Given as goal

abbrev pub invariant-loop-attribute : goal.invariant-loop-attribute
invariant-loop-attribute l =
    first_of (filter (λ x. not (fits_alternative x)) (map attribute_view (drop l.attribute-index l.attributes)))
    ≡ first_of (filter (λ x. not (fits_alternative x)) (map attribute_view l.attributes))
