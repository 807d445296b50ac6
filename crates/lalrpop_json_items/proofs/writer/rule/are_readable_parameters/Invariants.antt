use Rattle.lalrpop_json_items.specs.Readable.{IsReadableParameter}
use Rattle.lalrpop_json_symbols.proofs.EachLemmas.{RestDecides}
use Rattle.lalrpop_json_items.proofs.writer.rule.are_readable_parameters.Given as goal

abbrev pub invariant-loop-parameter : goal.invariant-loop-parameter
invariant-loop-parameter l = RestDecides (λ _. IsReadableParameter) l.parameters l.parameter-index
