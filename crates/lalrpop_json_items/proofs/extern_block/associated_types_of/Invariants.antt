use Rattle.lalrpop_json_items.specs.Externs.{associated_at}
use Rattle.lalrpop_json_values.proofs.ListReadingLemmas.{IsAt}
use Rattle.lalrpop_json_items.proofs.extern_block.associated_types_of.Given as goal

abbrev pub invariant-loop-index : goal.invariant-loop-index
invariant-loop-index l = IsAt (λ _. associated_at) l.value-items l.found l.index
