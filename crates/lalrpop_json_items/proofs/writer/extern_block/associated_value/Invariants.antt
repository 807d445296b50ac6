use Rattle.lalrpop_json_items.specs.Spelling.{associated_json}
use Rattle.lalrpop_json_symbols.proofs.ListLemmas.{AreFirst}
use Rattle.lalrpop_json_items.proofs.writer.extern_block.associated_value.Given as goal

abbrev pub invariant-loop-declared : goal.invariant-loop-declared
invariant-loop-declared l = AreFirst associated_json l.associated l.values.items l.declared-index
