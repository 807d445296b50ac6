use Rattle.lalrpop_lexer_nfa.proofs.KindLemmas.{AreFirst}
use Rattle.lalrpop_lexer_nfa.proofs.automaton.Nfa.new.Given as goal

abbrev pub invariant-loop-made : goal.invariant-loop-made
invariant-loop-made l = AreFirst l.states.items l.made
