use Rattle.lalrpop_lexer_pattern.proofs.TouchingLemmas.{AreKept}
use Rattle.lalrpop_lexer_pattern.proofs.touching.join_touching.Given as goal

abbrev pub invariant-loop-index : goal.invariant-loop-index
invariant-loop-index l = AreKept l.fn.ranges.items l.ranges.items l.kept l.index
