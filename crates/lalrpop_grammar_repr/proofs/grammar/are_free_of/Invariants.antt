use Rattle.std.proofs.Common.{take}
use Rattle.lalrpop_grammar_repr.specs.Productions.{AreFreeOf}
use Rattle.lalrpop_grammar_repr.proofs.grammar.are_free_of.Given as goal

abbrev pub invariant-loop-production : goal.invariant-loop-production
invariant-loop-production l = AreFreeOf l.nonterminal (take l.production-index l.productions)
