use Rattle.lalrpop_json_items.specs.Readable.{IsReadableAssociated}
use Rattle.lalrpop_json_symbols.proofs.EachLemmas.{RestDecides}
use Rattle.lalrpop_json_items.proofs.writer.extern_block.are_readable_associated.Given as goal

abbrev pub invariant-loop-declared : goal.invariant-loop-declared
invariant-loop-declared l = RestDecides (λ _. IsReadableAssociated) l.associated l.declared-index
