use Rattle.lalrpop_json_items.specs.Readable.{IsReadableConversion}
use Rattle.lalrpop_json_symbols.proofs.EachLemmas.{RestDecides}
use Rattle.lalrpop_json_items.proofs.writer.extern_block.are_readable_conversions.Given as goal

abbrev pub invariant-loop-conversion : goal.invariant-loop-conversion
invariant-loop-conversion l = RestDecides (λ _. IsReadableConversion) l.conversions l.conversion-index
