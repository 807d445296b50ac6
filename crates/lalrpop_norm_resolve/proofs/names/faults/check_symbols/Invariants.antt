use Rattle.std.proofs.Common.{◌≡◌}
use Rattle.lalrpop_grammar_symbols.specs.Subsymbols.{subsymbols_of}
use Rattle.lalrpop_grammar_symbols.specs.SubsymbolsLeft.{subsymbols_left}
use Rattle.lalrpop_grammar_symbols.specs.SymbolWalks.{symbols_view}
use Rattle.lalrpop_norm_theory.specs.NameFaults.{name_faults_in}
use Rattle.lalrpop_norm_resolve.specs.NameViews.{scope_names, scope_parameters}
use Rattle.lalrpop_norm_resolve.proofs.names.faults.check_symbols.Given as goal

abbrev pub invariant-loop-symbol : goal.invariant-loop-symbol
invariant-loop-symbol l =
    name_faults_in (scope_names l.scope) (scope_parameters l.scope) (subsymbols_of (symbols_view l.symbols))
    ≡ name_faults_in (scope_names l.scope) (scope_parameters l.scope) (subsymbols_left l.symbol-iterator)
