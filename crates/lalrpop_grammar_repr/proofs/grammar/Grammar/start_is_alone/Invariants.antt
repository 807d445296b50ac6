use Rattle.std.proofs.Common.{◌↔◌}
use Rattle.lalrpop_grammar_repr.specs.Productions.{IsAlone}
use Rattle.lalrpop_grammar_repr.proofs.grammar.Grammar.start_is_alone.Given as goal

abbrev pub invariant-loop-data : goal.invariant-loop-data
invariant-loop-data l = IsAlone l.nonterminal l.data-iterator ↔ IsAlone l.nonterminal l.self.nonterminals
