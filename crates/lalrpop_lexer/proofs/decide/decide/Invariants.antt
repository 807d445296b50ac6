use Rattle.lalrpop_lexer.specs.Outcome.{numbers}
use Rattle.lalrpop_lexer.proofs.StateViewLemmas.{AreDecided}
use Rattle.lalrpop_lexer.proofs.decide.decide.Given as goal

abbrev pub invariant-loop-i : goal.invariant-loop-i
invariant-loop-i l = AreDecided l.sets (numbers l.precedences) l.i l.states.items
