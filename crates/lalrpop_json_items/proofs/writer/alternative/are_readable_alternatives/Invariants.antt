use Rattle.lalrpop_json_items.specs.Readable.{IsReadableAlternative}
use Rattle.lalrpop_json_symbols.proofs.EachLemmas.{RestDecides}
use Rattle.lalrpop_json_items.proofs.writer.alternative.are_readable_alternatives.Given as goal

abbrev pub invariant-loop-place : goal.invariant-loop-place
invariant-loop-place l = RestDecides (IsReadableAlternative l.rule) l.alternatives l.place
