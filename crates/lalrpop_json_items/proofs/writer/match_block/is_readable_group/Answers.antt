use Rattle.std.proofs.Common.{rules}
use Rattle.lalrpop_json_items.specs.Readable.{IsReadableEntry}
use Rattle.lalrpop_json_symbols.proofs.EachLemmas.{each_goes_on, each_stops}
use Rattle.lalrpop_json_items.proofs.writer.match_block.is_readable_group.Goals as goal

pub returns-then-not-is_readable_entry : goal.returns-then-not-is_readable_entry
returns-then-not-is_readable_entry c =
    each_stops (λ _. IsReadableEntry) c.args.group.now.items c.is_readable_entry.result c.loop-entry.entry-index c.entry-item.result
    (rw c.as_slice-entry-items.ensures at c.loop-entry-test.true) (rw c.as_slice-entry-items.ensures at c.entry-item.is)
    c.is_readable_entry.ensures (search rules) c.loop-entry.invariant

pub loop-entry-preserved : goal.loop-entry-preserved
loop-entry-preserved c =
    each_goes_on (λ _. IsReadableEntry) c.args.group.now.items c.is_readable_entry.result c.loop-entry.entry-index c.entry-item.result
    (rw c.as_slice-entry-items.ensures at c.loop-entry-test.true) (rw c.as_slice-entry-items.ensures at c.entry-item.is)
    c.is_readable_entry.ensures (search rules) c.loop-entry.invariant
