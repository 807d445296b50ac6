use Rattle.std.proofs.Common.{◌-◌, ◌+◌, ◌∙◌, drop, suc, arith}
use Rattle.lalrpop_sets.specs.Ranges.{range_of}
use Rattle.lalrpop_sets.specs.RangeEdits.{without_number}
use Rattle.lalrpop_sets.proofs.PlaceLemmas.{at_place, parted, removed, replaced, set_length}
use Rattle.lalrpop_sets.proofs.RangeEditLemmas.{room_to_part, without_back, without_front, without_none, without_parts}
use Rattle.lalrpop_sets.proofs.ranges.take_from.Goals as goal

pub returns-in-false-false-clause-items : goal.returns-in-false-false-clause-items
returns-in-false-false-clause-items c =
    let rs = c.args.ranges.now.items in
    let p = c.args.place in
    let z = c.index-range.result.now in
    c.remove.ensures.items
    ∙ removed (without_number c.args.number) rs p z c.requires.place c.index-range.ensures
    (without_none c.args.number z (drop (suc p) rs) c.in-false-false.is-0 c.in-false-false.is-1)

pub returns-in-false-true-clause-items : goal.returns-in-false-true-clause-items
returns-in-false-true-clause-items c =
    let rs = c.args.ranges.now.items in
    let p = c.args.place in
    let z = c.index-range.result.now in
    replaced (without_number c.args.number) rs p z (range_of (c.args.number + 1) z.last) c.requires.place c.index-range.ensures
    (without_front c.args.number z (drop (suc p) rs) c.in-false-true.is-0 c.in-false-true.is-1)

pub returns-in-true-false-clause-items : goal.returns-in-true-false-clause-items
returns-in-true-false-clause-items c =
    let rs = c.args.ranges.now.items in
    let p = c.args.place in
    let z = c.index-range.result.now in
    replaced (without_number c.args.number) rs p z _ c.requires.place c.index-range.ensures
    (without_back c.args.number z (drop (suc p) rs) c.in-true-false.is-0 c.in-true-false.is-1)

pub insert_reserved-requires-clause-room : goal.insert_reserved-requires-clause-room
insert_reserved-requires-clause-room c =
    let rs = c.args.ranges.now.items in
    let p = c.args.place in
    let z = c.index-range.result.now in
    let m = room_to_part c.args.number p rs z c.requires.place (at_place rs p z c.requires.place c.index-range.ensures)
    c.in-true-true.is-0 c.in-true-true.is-1 in
    let n = set_length rs p (range_of z.first (c.args.number - 1)) in
    omega (arith, m, n, c.requires.room)

pub returns-in-true-true-clause-items : goal.returns-in-true-true-clause-items
returns-in-true-true-clause-items c =
    let rs = c.args.ranges.now.items in
    let p = c.args.place in
    let z = c.index-range.result.now in
    c.insert_reserved.ensures.items
    ∙ parted (without_number c.args.number) rs p z _ _ c.requires.place c.index-range.ensures
    (without_parts c.args.number z (drop (suc p) rs) c.in-true-true.is-0 c.in-true-true.is-1)
