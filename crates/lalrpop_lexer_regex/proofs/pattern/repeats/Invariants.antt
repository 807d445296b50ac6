use Rattle.std.proofs.Common.{length}
use Rattle.lalrpop_lexer_pattern.specs.Meaning.{meaning}
use Rattle.lalrpop_lexer_regex.proofs.PatternLemmas.{IsRepeating}
use Rattle.lalrpop_lexer_regex.proofs.pattern.repeats.Given as goal

abbrev pub invariant-loop-character : goal.invariant-loop-character
invariant-loop-character l = IsRepeating (meaning l.fn.atom) l.fn.text l.rest (meaning l.tree)

abbrev pub decreases-loop-character : goal.decreases-loop-character
decreases-loop-character l = length l.rest
