use Rattle.lalrpop_json_items.specs.Matches.{match_entry_at}
use Rattle.lalrpop_json_values.proofs.ListReadingLemmas.{IsAt}
use Rattle.lalrpop_json_items.proofs.match_block.entries_of.Given as goal

abbrev pub invariant-loop-index : goal.invariant-loop-index
invariant-loop-index l = IsAt (λ _. match_entry_at) l.value-items l.found l.index
