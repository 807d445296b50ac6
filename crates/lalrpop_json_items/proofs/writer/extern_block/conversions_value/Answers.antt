use Rattle.lalrpop_json_items.specs.Spelling.{conversion_json}
use Rattle.lalrpop_json_symbols.proofs.ListLemmas.{all_listed, first_more}
use Rattle.lalrpop_json_items.proofs.writer.extern_block.conversions_value.Goals as goal

pub loop-conversion-preserved : goal.loop-conversion-preserved
loop-conversion-preserved c =
    first_more conversion_json c.args.conversions.now c.loop-conversion.values.items c.push.new.self.items
    c.loop-conversion.conversion-index c.conversion-item.result
    c.in_ok-conversion_value.field-0 c.loop-conversion-test.true c.conversion-item.is c.in_ok-conversion_value.ensures
    c.in_ok-push.ensures.items
    c.loop-conversion.invariant

pub returns : goal.returns
returns c =
    all_listed conversion_json c.args.conversions.now c.loop-conversion.values c.loop-conversion.conversion-index
    c.loop-conversion-test.false c.loop-conversion.invariant
