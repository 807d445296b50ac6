use Rattle.std.proofs.Common.{take}
use Rattle.lalrpop_lexer.proofs.OutcomeLemmas.{ArePatterns}
use Rattle.lalrpop_lexer.proofs.outcome_of.patterns_in.Given as goal

abbrev pub invariant-loop-i : goal.invariant-loop-i
invariant-loop-i l = ArePatterns (take l.i l.set) l.patterns.items
