use Rattle.lalrpop_json_items.specs.Spelling.{conversion_json}
use Rattle.lalrpop_json_symbols.proofs.ListLemmas.{AreFirst}
use Rattle.lalrpop_json_items.proofs.writer.extern_block.conversions_value.Given as goal

abbrev pub invariant-loop-conversion : goal.invariant-loop-conversion
invariant-loop-conversion l = AreFirst conversion_json l.conversions l.values.items l.conversion-index
