use Rattle.std.proofs.Common.{◌≡◌}
use Rattle.std.specs.Prelude.{flat_map}
use Rattle.lalrpop_grammar_symbols.specs.SubsymbolsLeft.{subsymbols_left}
use Rattle.lalrpop_grammar_symbols.specs.SymbolWalks.{symbols_view}
use Rattle.lalrpop_norm_prevalidate.specs.Names.{first_reserved, names_in_symbols, own_name}
use Rattle.lalrpop_norm_prevalidate.proofs.names.reserved_in_symbols.Given as goal

abbrev pub invariant-loop-symbol : goal.invariant-loop-symbol
invariant-loop-symbol l =
    first_reserved l.prefix (flat_map own_name (subsymbols_left l.symbol-iterator))
    ≡ first_reserved l.prefix (names_in_symbols (symbols_view l.symbols))
