use Rattle.lalrpop_lr1_counterexamples.specs.Slots.{AreFilling}
use Rattle.lalrpop_lr1_counterexamples.proofs.certificates.slots.fill_slots.Given as goal

abbrev pub invariant-loop-number : goal.invariant-loop-number
invariant-loop-number l = AreFilling l.shown l.tokens l.token l.initial.slots.items l.slots.items l.number
