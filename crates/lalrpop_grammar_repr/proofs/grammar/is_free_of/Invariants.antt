use Rattle.std.proofs.Common.{take}
use Rattle.lalrpop_grammar_repr.specs.Productions.{IsFreeOf}
use Rattle.lalrpop_grammar_repr.proofs.grammar.is_free_of.Given as goal

abbrev pub invariant-loop-symbol : goal.invariant-loop-symbol
invariant-loop-symbol l = IsFreeOf l.nonterminal (take l.symbol-index l.symbols)
