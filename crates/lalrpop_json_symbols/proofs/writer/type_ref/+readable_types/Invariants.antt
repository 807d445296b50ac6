use Rattle.lalrpop_json_symbols.specs.Readable.{IsReadableType}
use Rattle.lalrpop_json_symbols.proofs.EachLemmas.{RestDecides}
use Rattle.lalrpop_json_symbols.proofs.writer.type_ref.+readable_types.Given as goal

abbrev pub invariant-are_readable_types-loop-declared : goal.invariant-are_readable_types-loop-declared
invariant-are_readable_types-loop-declared l = RestDecides (λ _. IsReadableType) l.types l.declared-index
