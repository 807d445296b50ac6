use Rattle.std.proofs.Common.{◌+◌, Contains}
use Rattle.lalrpop_lexer.specs.Outcome.{numbers}
use Rattle.lalrpop_lexer.proofs.OutcomeLemmas.{IsWeighing}
use Rattle.lalrpop_lexer.proofs.outcome_of.outcome_of.Given as goal

abbrev pub invariant-loop-i : goal.invariant-loop-i
invariant-loop-i l = IsWeighing (λ k. Contains l.set (3 + k)) (numbers l.precedences) l.patterns.items l.i l.next l.outcome
