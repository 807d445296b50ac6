use Rattle.lalrpop_json_items.specs.Readable.{IsReadableContents}
use Rattle.lalrpop_json_symbols.proofs.EachLemmas.{RestDecides}
use Rattle.lalrpop_json_items.proofs.writer.match_block.are_readable_groups.Given as goal

abbrev pub invariant-loop-group : goal.invariant-loop-group
invariant-loop-group l = RestDecides (λ _. IsReadableContents) l.groups l.group-index
