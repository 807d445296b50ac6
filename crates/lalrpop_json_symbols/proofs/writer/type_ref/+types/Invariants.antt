use Rattle.lalrpop_json_symbols.specs.Spelling.{type_json}
use Rattle.lalrpop_json_symbols.proofs.ListLemmas.{AreFirst}
use Rattle.lalrpop_json_symbols.proofs.writer.type_ref.+types.Given as goal

abbrev pub invariant-types_value-loop-declared : goal.invariant-types_value-loop-declared
invariant-types_value-loop-declared l = AreFirst type_json l.types l.values.items l.declared-index
