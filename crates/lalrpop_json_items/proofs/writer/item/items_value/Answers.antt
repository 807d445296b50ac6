use Rattle.lalrpop_json_items.specs.Spelling.{item_json}
use Rattle.lalrpop_json_symbols.proofs.ListLemmas.{all_listed, first_more}
use Rattle.lalrpop_json_items.proofs.writer.item.items_value.Goals as goal

pub loop-item-preserved : goal.loop-item-preserved
loop-item-preserved c =
    first_more item_json c.args.items.now c.loop-item.values.items c.push.new.self.items c.loop-item.item-index c.item-item.result
    c.in_ok-item_value.field-0 c.loop-item-test.true c.item-item.is c.in_ok-item_value.ensures c.in_ok-push.ensures.items
    c.loop-item.invariant

pub returns : goal.returns
returns c =
    all_listed item_json c.args.items.now c.loop-item.values c.loop-item.item-index c.loop-item-test.false c.loop-item.invariant
