use Rattle.lalrpop_lr1_build.proofs.RuleNumberLemmas.{TellsFrom}
use Rattle.lalrpop_lr1_build.proofs.rule_numbers.rule_numbers.Given as goal

abbrev pub invariant-loop-place : goal.invariant-loop-place
invariant-loop-place l = TellsFrom l.places l.place l.number l.numbers.items

abbrev pub decreases-loop-place : goal.decreases-loop-place
decreases-loop-place l = l.place
