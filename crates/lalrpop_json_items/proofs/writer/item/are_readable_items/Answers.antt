use Rattle.std.proofs.Common.{rules}
use Rattle.lalrpop_json_items.specs.Readable.{IsReadableItem}
use Rattle.lalrpop_json_symbols.proofs.EachLemmas.{each_goes_on, each_stops}
use Rattle.lalrpop_json_items.proofs.writer.item.are_readable_items.Goals as goal

pub returns-then-not-is_readable_item : goal.returns-then-not-is_readable_item
returns-then-not-is_readable_item c =
    each_stops (λ _. IsReadableItem) c.args.items.now c.is_readable_item.result c.loop-item.item-index c.item-item.result
    c.loop-item-test.true c.item-item.is c.is_readable_item.ensures (search rules) c.loop-item.invariant

pub loop-item-preserved : goal.loop-item-preserved
loop-item-preserved c =
    each_goes_on (λ _. IsReadableItem) c.args.items.now c.is_readable_item.result c.loop-item.item-index c.item-item.result
    c.loop-item-test.true c.item-item.is c.is_readable_item.ensures (search rules) c.loop-item.invariant
