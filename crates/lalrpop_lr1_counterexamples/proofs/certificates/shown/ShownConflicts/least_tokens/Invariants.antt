use Rattle.lalrpop_lr1_counterexamples.specs.Slots.{AreLeastTokensOf}
use Rattle.lalrpop_lr1_counterexamples.proofs.certificates.shown.ShownConflicts.least_tokens.Given as goal

abbrev pub invariant-loop-number : goal.invariant-loop-number
invariant-loop-number l = AreLeastTokensOf l.self l.number l.tokens.items
