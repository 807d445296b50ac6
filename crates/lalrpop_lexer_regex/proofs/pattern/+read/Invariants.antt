use Rattle.std.proofs.Common.{◌+◌, ◌*◌, length, map}
use Rattle.lalrpop_lexer_pattern.specs.Meaning.{meaning}
use Rattle.lalrpop_lexer_regex.specs.Patterns.{factor_at}
use Rattle.lalrpop_lexer_regex.proofs.PatternLemmas.{IsReading}
use Rattle.lalrpop_lexer_regex.proofs.pattern.+read.Given as goal

abbrev pub decreases-pattern : goal.decreases-pattern
decreases-pattern l = 6 * l.depth + 5

abbrev pub decreases-factor : goal.decreases-factor
decreases-factor l = 6 * l.depth + 4

abbrev pub decreases-atom : goal.decreases-atom
decreases-atom l = 6 * l.depth + 3

abbrev pub decreases-group : goal.decreases-group
decreases-group l = 6 * l.depth + 2

abbrev pub decreases-special_group : goal.decreases-special_group
decreases-special_group l = 6 * l.depth + 1

abbrev pub decreases-inner : goal.decreases-inner
decreases-inner l = 6 * l.depth

abbrev pub invariant-pattern-loop-character : goal.invariant-pattern-loop-character
invariant-pattern-loop-character l =
    IsReading (factor_at l.depth) l.fn.before l.fn.text (map meaning l.branches.items) (map meaning l.factors.items) l.flags l.rest

abbrev pub decreases-pattern-loop-character : goal.decreases-pattern-loop-character
decreases-pattern-loop-character l = length l.rest
