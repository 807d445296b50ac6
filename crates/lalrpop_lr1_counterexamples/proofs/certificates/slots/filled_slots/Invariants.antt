use Rattle.std.specs.Vec.Iter.{into_iter_items, into_iter_len}
use Rattle.lalrpop_lr1_counterexamples.specs.Slots.{AreTakenOut}
use Rattle.lalrpop_lr1_counterexamples.proofs.certificates.slots.filled_slots.Given as goal

abbrev pub invariant-loop-slot : goal.invariant-loop-slot
invariant-loop-slot l = AreTakenOut l.fn.slots.items l.all.items (into_iter_items l.slot-iterator) (into_iter_len l.slot-iterator)
