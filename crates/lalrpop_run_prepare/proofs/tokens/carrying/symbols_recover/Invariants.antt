use Rattle.std.proofs.Common.{◌≡◌}
use Rattle.std.specs.List.{list_any}
use Rattle.lalrpop_grammar_symbols.specs.Subsymbols.{subsymbols_of}
use Rattle.lalrpop_grammar_symbols.specs.SubsymbolsLeft.{subsymbols_left}
use Rattle.lalrpop_grammar_symbols.specs.SymbolWalks.{symbols_view}
use Rattle.lalrpop_run_prepare.specs.Carried.{is_recovery}
use Rattle.lalrpop_run_prepare.proofs.tokens.carrying.symbols_recover.Given as goal

abbrev pub invariant-loop-symbol : goal.invariant-loop-symbol
invariant-loop-symbol l =
    list_any is_recovery (subsymbols_of (symbols_view l.symbols)) ≡ list_any is_recovery (subsymbols_left l.symbol-iterator)
