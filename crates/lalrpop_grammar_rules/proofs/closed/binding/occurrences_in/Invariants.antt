use Rattle.std.proofs.Common.{◌≡◌, ◌+◌}
use Rattle.lalrpop_grammar_symbols.specs.SubsymbolsLeft.{subsymbols_left}
use Rattle.lalrpop_grammar_symbols.specs.SymbolWalks.{symbols_view}
use Rattle.lalrpop_grammar_language.specs.Closing.{occurrences_among, occurrences_in}
use Rattle.lalrpop_grammar_rules.specs.Scopes.{binding_view}
use Rattle.lalrpop_grammar_rules.proofs.closed.binding.occurrences_in.Given as goal

abbrev pub invariant-loop-symbol : goal.invariant-loop-symbol
invariant-loop-symbol l =
    l.count + occurrences_among (binding_view l.binding) l.owner (subsymbols_left l.symbol-iterator)
    ≡ occurrences_in (binding_view l.binding) l.owner (symbols_view l.symbols)
