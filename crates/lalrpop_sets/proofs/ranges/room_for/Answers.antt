use Rattle.std.proofs.Common.{◌∷◌, ◌+◌, ap, subst, arith}
use Rattle.lalrpop_sets.specs.Ranges.{RangesFrom, most_ranges}
use Rattle.lalrpop_sets.proofs.RangeLemmas.{ranges_weaken}
use Rattle.lalrpop_sets.proofs.ranges.room_for.Goals as goal

pub room_of-room-requires : goal.room_of-room-requires
room_of-room-requires c = (subst (RangesFrom 2 0) c.in-Some.ensures.cases.0 c.loop-range.invariant.1).1

pub overflow_add-room : goal.overflow_add-room
overflow_add-room c =
    let m = ap most_ranges c.in-Some.ensures.cases.0 in
    omega (arith, m, c.loop-range.invariant.0, c.requires.few, c.room_of-room.ensures.room)

pub loop-range-preserved : goal.loop-range-preserved
loop-range-preserved c =
    let r = c.in-Some.range.now in
    let others = c.in-Some.others.now in
    let e = c.in-Some.ensures.cases.0 in
    let h : RangesFrom 2 0 (r ∷ others) = subst (RangesFrom 2 0) e c.loop-range.invariant.1 in
    let m = ap most_ranges e in
    (omega (arith, m, c.loop-range.invariant.0, c.room_of-room.ensures.room), ranges_weaken 2 (r.last + 2) 0 others (omega arith) h.2)
