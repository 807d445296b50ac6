use Rattle.lalrpop_json_items.specs.Readable.{IsReadableEntry}
use Rattle.lalrpop_json_symbols.proofs.EachLemmas.{RestDecides}
use Rattle.lalrpop_json_items.proofs.writer.match_block.is_readable_group.Given as goal

abbrev pub invariant-loop-entry : goal.invariant-loop-entry
invariant-loop-entry l = RestDecides (λ _. IsReadableEntry) l.group.items l.entry-index
