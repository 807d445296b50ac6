use Rattle.lalrpop_json_items.specs.Spelling.{parameter_json}
use Rattle.lalrpop_json_symbols.proofs.ListLemmas.{AreFirst}
use Rattle.lalrpop_json_items.proofs.writer.rule.parameters_value.Given as goal

abbrev pub invariant-loop-parameter : goal.invariant-loop-parameter
invariant-loop-parameter l = AreFirst parameter_json l.parameters l.values.items l.parameter-index
