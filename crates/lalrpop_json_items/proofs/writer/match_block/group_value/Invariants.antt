use Rattle.lalrpop_json_items.specs.Spelling.{entry_json}
use Rattle.lalrpop_json_symbols.proofs.ListLemmas.{AreFirst}
use Rattle.lalrpop_json_items.proofs.writer.match_block.group_value.Given as goal

abbrev pub invariant-loop-entry : goal.invariant-loop-entry
invariant-loop-entry l = AreFirst entry_json l.group.items l.values.items l.entry-index
