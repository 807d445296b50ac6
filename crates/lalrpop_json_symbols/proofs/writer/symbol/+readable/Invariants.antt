use Rattle.lalrpop_json_symbols.specs.Readable.{IsReadableSymbol}
use Rattle.lalrpop_json_symbols.proofs.EachLemmas.{RestDecides}
use Rattle.lalrpop_json_symbols.proofs.writer.symbol.+readable.Given as goal

abbrev pub invariant-are_readable_symbols-loop-symbol : goal.invariant-are_readable_symbols-loop-symbol
invariant-are_readable_symbols-loop-symbol l = RestDecides (λ _. IsReadableSymbol) l.symbols l.symbol-index
