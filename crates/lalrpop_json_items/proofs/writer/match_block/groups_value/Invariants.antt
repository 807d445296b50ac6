use Rattle.lalrpop_json_items.specs.Spelling.{contents_json}
use Rattle.lalrpop_json_symbols.proofs.ListLemmas.{AreFirst}
use Rattle.lalrpop_json_items.proofs.writer.match_block.groups_value.Given as goal

abbrev pub invariant-loop-group : goal.invariant-loop-group
invariant-loop-group l = AreFirst contents_json l.groups l.values.items l.group-index
