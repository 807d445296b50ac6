use Rattle.lalrpop_json_items.specs.Matches.{contents_at}
use Rattle.lalrpop_json_values.proofs.ListReadingLemmas.{IsAt}
use Rattle.lalrpop_json_items.proofs.match_block.groups_of.Given as goal

abbrev pub invariant-loop-index : goal.invariant-loop-index
invariant-loop-index l = IsAt (λ _. contents_at) l.value-items l.found l.index
