use Rattle.lalrpop_json_items.specs.Rules.{parameter_at}
use Rattle.lalrpop_json_values.proofs.ListReadingLemmas.{IsAt}
use Rattle.lalrpop_json_items.proofs.rule.parameters_of.Given as goal

abbrev pub invariant-loop-index : goal.invariant-loop-index
invariant-loop-index l = IsAt (λ _. parameter_at) l.value-items l.found l.index
