use Rattle.std.proofs.Common.{refl, rules}
use Rattle.lalrpop_json_symbols.specs.Readable.{IsReadableAttribute}
use Rattle.lalrpop_json_symbols.proofs.AttributeSpellingLemmas.{all_readable, each_readable, of_parts}
use Rattle.lalrpop_json_symbols.proofs.EachLemmas.{each_goes_on, each_stops, rest_ends}
use Rattle.lalrpop_json_symbols.proofs.writer.attribute.+readable_attributes.Goals as goal

pub is_readable_argument-returns-in-Paren : goal.is_readable_argument-returns-in-Paren
is_readable_argument-returns-in-Paren t c =
    of_parts c.are_readable_attributes.result _ _ c.in-Paren.is (rw c.as_slice.ensures at c.are_readable_attributes.ensures)

pub are_readable_attributes-loop-attribute-preserved : goal.are_readable_attributes-loop-attribute-preserved
are_readable_attributes-loop-attribute-preserved t c =
    each_goes_on (λ _. IsReadableAttribute) c.args.attributes.now c.is_readable_attribute.result c.loop-attribute.attribute-index
    c.attribute-item.result c.loop-attribute-test.true c.attribute-item.is c.is_readable_attribute.ensures (search rules)
    c.loop-attribute.invariant

pub are_readable_attributes-returns-then-not-is_readable_attribute : goal.are_readable_attributes-returns-then-not-is_readable_attribute
are_readable_attributes-returns-then-not-is_readable_attribute t c =
    let stopped = each_stops (λ _. IsReadableAttribute) c.args.attributes.now c.is_readable_attribute.result
    c.loop-attribute.attribute-index c.attribute-item.result c.loop-attribute-test.true c.attribute-item.is
    c.is_readable_attribute.ensures (search rules) c.loop-attribute.invariant in
    ((λ none. absurd (cc)), (λ are. stopped.1 (each_readable 0 c.args.attributes.now are)))

pub are_readable_attributes-returns : goal.are_readable_attributes-returns
are_readable_attributes-returns t c = (
  (λ _. all_readable 0 c.args.attributes.now (rest_ends (λ _. IsReadableAttribute) c.args.attributes.now
      c.loop-attribute.attribute-index c.loop-attribute-test.false c.loop-attribute.invariant)),
  (λ _. refl),
)
