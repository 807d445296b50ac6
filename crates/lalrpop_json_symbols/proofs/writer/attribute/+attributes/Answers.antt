use Rattle.lalrpop_json_symbols.specs.Spelling.{attribute_json}
use Rattle.lalrpop_json_symbols.proofs.ListLemmas.{all_listed, first_more}
use Rattle.lalrpop_json_symbols.proofs.writer.attribute.+attributes.Goals as goal

pub attributes_value-loop-attribute-preserved : goal.attributes_value-loop-attribute-preserved
attributes_value-loop-attribute-preserved t c =
    first_more attribute_json c.args.attributes.now c.loop-attribute.values.items c.push.new.self.items c.loop-attribute.attribute-index
    c.attribute-item.result
    c.in_ok-attribute_value.field-0 c.loop-attribute-test.true c.attribute-item.is c.in_ok-attribute_value.ensures
    c.in_ok-push.ensures.items
    c.loop-attribute.invariant

pub attributes_value-returns : goal.attributes_value-returns
attributes_value-returns t c =
    all_listed attribute_json c.args.attributes.now c.loop-attribute.values c.loop-attribute.attribute-index c.loop-attribute-test.false
    c.loop-attribute.invariant
