use Rattle.std.proofs.Common.{◌+◌, ◌∷◌, ◌++◌, ◌∙◌, [], sym, ap, subst, arith}
use Rattle.lalrpop_sets.specs.Ranges.{RangesFrom, is_covered, most_ranges}
use Rattle.lalrpop_sets.specs.RangeWalks.{ranges_to_come}
use Rattle.lalrpop_sets.proofs.JoinedLemmas.{JoinedTo, joined_end, joined_few, joined_more, joined_one, joined_other, joined_short, joined_start}
use Rattle.lalrpop_sets.proofs.joined.joined_ranges.Goals as goal

pub loop-range-init : goal.loop-range-init
loop-range-init c =
    let ps = ranges_to_come c.args.one in
    let qs = ranges_to_come c.args.other in
    subst (λ l. JoinedTo ps qs l ps qs 0) (sym c.in_ok-list.ensures.items) (joined_start ps qs c.requires.one c.requires.other)

pub next_joined-requires-clause-one : goal.next_joined-requires-clause-one
next_joined-requires-clause-one c = joined_one _ _ _ _ _ _ c.loop-range.invariant

pub next_joined-requires-clause-other : goal.next_joined-requires-clause-other
next_joined-requires-clause-other c = joined_other _ _ _ _ _ _ c.loop-range.invariant

pub room_of-room-requires : goal.room_of-room-requires
room_of-room-requires c = c.in-Some.ensures.first.ordered

pub overflow_add-room : goal.overflow_add-room
overflow_add-room c =
    let f = joined_few _ _ _ _ _ _ c.loop-range.invariant in
    omega (arith, f, c.room_of-room.ensures.room, c.room_of-room.ensures.small)

pub loop-range-preserved : goal.loop-range-preserved
loop-range-preserved c =
    let ps = ranges_to_come c.args.one in
    let qs = ranges_to_come c.args.other in
    let ps' = ranges_to_come c.next_joined.new.one in
    let qs' = ranges_to_come c.next_joined.new.other in
    subst (λ l. JoinedTo ps qs l ps' qs' (c.loop-range.room + c.room_of-room.result)) (sym c.in_ok-push.ensures.items)
    (subst (λ n. JoinedTo ps qs (c.loop-range.list.items ++ c.in-Some.range ∷ []) ps' qs' (c.loop-range.room + n)) (sym c.room_of-room.ensures.room)
    (joined_more ps qs c.loop-range.list.items _ _ c.loop-range.room c.loop-range.invariant c.in-Some.range ps' qs' c.in-Some.ensures.first
    c.room_of-room.ensures.small))

pub loop-range-smaller : goal.loop-range-smaller
loop-range-smaller c = c.in-Some.ensures.first.fewer

pub overflow_sub-more : goal.overflow_sub-more
overflow_sub-more c =
    let s = joined_short _ _ _ _ _ _ c.loop-range.invariant in
    omega (arith, s, c.len.ensures, c.loop-range.list.ok.0)

pub returns-clause-covered : goal.returns-clause-covered
returns-clause-covered c k =
    ap (λ l. is_covered l k) c.reserve_exact.ensures.items
    ∙ joined_end _ _ c.loop-range.list.items _ _ _ c.loop-range.invariant c.in_default.ensures.first.0 c.in_default.ensures.first.1 k

pub returns-clause-apart : goal.returns-clause-apart
returns-clause-apart c = subst (RangesFrom 2 0) (sym c.reserve_exact.ensures.items) c.loop-range.invariant.apart

pub returns-clause-room : goal.returns-clause-room
returns-clause-room c =
    let s = joined_short _ _ _ _ _ _ c.loop-range.invariant in
    let m = ap most_ranges c.reserve_exact.ensures.items in
    omega (
      arith,
      s,
      m,
      c.loop-range.invariant.room,
      c.len.ensures,
      c.loop-range.list.ok.0,
      c.in_ok-reserve_exact.ensures.ok,
      c.reserve_exact.ensures.len,
    )
