use Rattle.std.proofs.Common.{◌++◌, ◌∙◌, ap, sym, subst, arith}
use Rattle.lalrpop_sets.specs.Ranges.{RangesFrom, most_ranges, token_numbers}
use Rattle.lalrpop_sets.proofs.TokenSetLemmas.{kept_ranges}
use Rattle.lalrpop_sets.proofs.token_set.TokenSet.try_clone.Goals as goal

pub room_for-room-requires-clause-apart : goal.room_for-room-requires-clause-apart
room_for-room-requires-clause-apart c = subst (RangesFrom 2 0) (sym c.as_slice.ensures.value) c.self.invariant.apart

pub room_for-room-requires-clause-few : goal.room_for-room-requires-clause-few
room_for-room-requires-clause-few c =
    let r = c.self.invariant.room in
    let s = c.self.inside.ranges.small in
    let e = ap most_ranges c.as_slice.ensures.value in
    omega (arith, r, s, e)

pub invariant_of-result : goal.invariant_of-result
invariant_of-result c =
    let items = c.in_ok-extend_from_slice.ensures.items ∙ ap (λ l. l ++ c.as_slice-2.result.now) c.in_ok-ranges.ensures.items ∙ c.as_slice-2.ensures.value in
    let m = ap most_ranges items in
    let s = ap most_ranges c.as_slice.ensures.value in
    kept_ranges c.self.inside.ranges.items c.extend_from_slice.new.self.items c.self.inside.end _ _ c.self.invariant items
    (omega (arith, m, s, c.room_for-room.ensures, c.in_ok-ranges.ensures.capacity, c.extend_from_slice.ensures.capacity))

pub returns : goal.returns
returns c =
    let items = c.in_ok-extend_from_slice.ensures.items ∙ ap (λ l. l ++ c.as_slice-2.result.now) c.in_ok-ranges.ensures.items ∙ c.as_slice-2.ensures.value in
    ap (λ l. token_numbers l c.self.inside.end) items ∙ c.self.view_is
