use Rattle.std.proofs.Common.{List, arith, rules, subst, sym}
use Rattle.std.specs.Vec.Iter.{into_iter_items, into_iter_len}
use Rattle.lalrpop_judge.specs.declared.certificates.certificate.Certificate.{Certificate}
use Rattle.lalrpop_lr1_counterexamples.specs.Slots.{AreTakenOut}
use Rattle.lalrpop_lr1_counterexamples.proofs.SlotLemmas.{none_taken_out, slot_is_filled, taken_one}
use Rattle.lalrpop_lr1_counterexamples.proofs.certificates.slots.filled_slots.Goals as goal

pub loop-slot-init : goal.loop-slot-init
loop-slot-init c =
    let left = into_iter_items c.into_iter-slot-iterator.result in
    let many = into_iter_len c.into_iter-slot-iterator.result in
    subst (λ (l : List Certificate). AreTakenOut c.args.slots.items l left many) (sym c.in_ok-all.ensures.items)
    (none_taken_out c.args.slots.items left many c.into_iter-slot-iterator.ensures.into_iter_gives.0 c.requires (search rules))

pub unreachable-requires : goal.unreachable-requires
unreachable-requires c =
    slot_is_filled c.args.slots.items (into_iter_items c.loop-slot.slot-iterator) (into_iter_items c.next.new.self) c.loop-slot.all.items
    c.in-Some.slot (into_iter_len c.loop-slot.slot-iterator) c.loop-slot.invariant c.in-Some.ensures.steps.0 c.in-None-slot.is

pub loop-slot-preserved : goal.loop-slot-preserved
loop-slot-preserved c =
    taken_one c.args.slots.items (into_iter_items c.loop-slot.slot-iterator) (into_iter_items c.next.new.self) c.loop-slot.all.items
    c.in-Some.slot (into_iter_len c.loop-slot.slot-iterator) c.loop-slot.invariant c.in-Some.ensures.steps.0 c.in-Some-slot.certificate
    c.push.new.self.items (into_iter_len c.next.new.self) c.in-Some-slot.is c.in_ok-push-in-Some-slot.ensures.items
    (omega (arith, c.in-Some.ensures.steps.1))
