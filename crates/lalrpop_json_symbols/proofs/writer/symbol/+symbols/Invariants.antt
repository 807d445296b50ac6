use Rattle.lalrpop_json_symbols.specs.Spelling.{symbol_json}
use Rattle.lalrpop_json_symbols.proofs.ListLemmas.{AreFirst}
use Rattle.lalrpop_json_symbols.proofs.writer.symbol.+symbols.Given as goal

abbrev pub invariant-symbols_value-loop-symbol : goal.invariant-symbols_value-loop-symbol
invariant-symbols_value-loop-symbol l = AreFirst symbol_json l.symbols l.values.items l.symbol-index
