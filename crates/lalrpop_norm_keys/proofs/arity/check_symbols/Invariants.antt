use Rattle.std.proofs.Common.{◌≡◌}
use Rattle.lalrpop_grammar_symbols.specs.Subsymbols.{subsymbols_of}
use Rattle.lalrpop_grammar_symbols.specs.SubsymbolsLeft.{subsymbols_left}
use Rattle.lalrpop_grammar_symbols.specs.SymbolWalks.{symbols_view}
use Rattle.lalrpop_grammar_rules.specs.RuleTable.{rules_view}
use Rattle.lalrpop_norm_keys.specs.Arity.{arity_faults_of}
use Rattle.lalrpop_norm_keys.proofs.arity.check_symbols.Given as goal

abbrev pub invariant-loop-symbol : goal.invariant-loop-symbol
invariant-loop-symbol l =
    arity_faults_of (rules_view l.rules) (subsymbols_of (symbols_view l.symbols))
    ≡ arity_faults_of (rules_view l.rules) (subsymbols_left l.symbol-iterator)
