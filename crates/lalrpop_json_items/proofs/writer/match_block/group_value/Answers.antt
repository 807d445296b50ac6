use Rattle.lalrpop_json_items.specs.Spelling.{entry_json}
use Rattle.lalrpop_json_symbols.proofs.ListLemmas.{all_listed, first_more}
use Rattle.lalrpop_json_items.proofs.writer.match_block.group_value.Goals as goal

pub loop-entry-preserved : goal.loop-entry-preserved
loop-entry-preserved c =
    first_more entry_json c.args.group.now.items c.loop-entry.values.items c.push.new.self.items c.loop-entry.entry-index
    c.entry-item.result
    c.in_ok-entry_value.field-0 (rw c.as_slice-entry-items.ensures at c.loop-entry-test.true) (rw c.as_slice-entry-items.ensures at
    c.entry-item.is) c.in_ok-entry_value.ensures c.in_ok-push.ensures.items
    c.loop-entry.invariant

pub returns : goal.returns
returns c =
    all_listed entry_json c.args.group.now.items c.loop-entry.values c.loop-entry.entry-index (rw c.as_slice-entry-items.ensures at
    c.loop-entry-test.false) c.loop-entry.invariant
