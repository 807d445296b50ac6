use Rattle.lalrpop_lr1_counterexamples.specs.Slots.{AreEmptySlots}
use Rattle.lalrpop_lr1_counterexamples.proofs.certificates.slots.empty_slots.Given as goal

abbrev pub invariant-loop-number : goal.invariant-loop-number
invariant-loop-number l = AreEmptySlots l.number l.slots.items
