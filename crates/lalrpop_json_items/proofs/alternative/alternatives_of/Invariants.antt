use Rattle.lalrpop_json_items.specs.Alternatives.{alternative_at}
use Rattle.lalrpop_json_values.proofs.ListReadingLemmas.{IsAt}
use Rattle.lalrpop_json_items.proofs.alternative.alternatives_of.Given as goal

abbrev pub invariant-loop-index : goal.invariant-loop-index
invariant-loop-index l = IsAt (alternative_at l.rule) l.value-items l.alternatives l.index
