use Rattle.lalrpop_lr1_counterexamples.specs.Slots.{AreFilledSlots}
use Rattle.lalrpop_lr1_counterexamples.proofs.certificates.slots.all_certificates.Given as goal

abbrev pub invariant-loop-number : goal.invariant-loop-number
invariant-loop-number l = AreFilledSlots l.shown l.slots.items l.number
