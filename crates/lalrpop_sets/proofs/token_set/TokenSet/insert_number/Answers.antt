use Rattle.std.proofs.Common.{◌∙◌, ◌||◌, eqb, ap, arith, sym, subst, ℕ}
use Rattle.lalrpop_sets.specs.AscendingLists.{Ascends, has}
use Rattle.lalrpop_sets.specs.Ranges.{RangesFrom, is_covered, most_ranges, token_numbers}
use Rattle.lalrpop_sets.proofs.RangeEditLemmas.{few_ranges}
use Rattle.lalrpop_sets.proofs.TokenSetLemmas.{asc_set, comes_not, kept_ranges, lacked, put_has, put_ranges}
use Rattle.lalrpop_sets.proofs.AscendingListLemmas.{if_err}
use Rattle.lalrpop_sets.proofs.token_set.TokenSet.insert_number.Goals as goal

pub returns-then-contains_number-clause-set : goal.returns-then-contains_number-clause-set
returns-then-contains_number-clause-set c = comes_not c.args.self.now c.args.number (sym c.contains_number.ensures.answer ∙ c.if-contains_number.true)

pub room_for-room-requires-clause-apart : goal.room_for-room-requires-clause-apart
room_for-room-requires-clause-apart c = subst (RangesFrom 2 0) (sym c.as_slice.ensures.value) c.self.invariant.apart

pub room_for-room-requires-clause-few : goal.room_for-room-requires-clause-few
room_for-room-requires-clause-few c =
    let e = ap most_ranges c.as_slice.ensures.value in
    omega (arith, e, c.self.invariant.room, c.self.inside.ranges.small)

pub overflow_add-room : goal.overflow_add-room
overflow_add-room c =
    let e = ap most_ranges c.as_slice.ensures.value in
    omega (arith, e, c.self.invariant.room, c.self.inside.ranges.small, c.room_for-room.ensures)

pub overflow_sub-more : goal.overflow_sub-more
overflow_sub-more c =
    let f = few_ranges c.self.inside.ranges.items in
    let e = ap most_ranges c.as_slice.ensures.value in
    omega (arith, f, e, c.room_for-room.ensures, c.len.ensures, c.self.inside.ranges.ok.0)

pub invariant_of-self : goal.invariant_of-self
invariant_of-self c =
    let m = ap most_ranges c.reserve.ensures.items in
    kept_ranges c.self.inside.ranges.items c.reserve.new.self.items c.self.inside.end _ _ c.self.invariant c.reserve.ensures.items
    (omega (arith, m, c.self.invariant.room, c.reserve.ensures.capacity))

pub returns-in_err-reserve-clause-kept : goal.returns-in_err-reserve-clause-kept
returns-in_err-reserve-clause-kept c =
    if_err _ _ (λ e. ap (λ l. token_numbers l c.self.inside.end) c.reserve.ensures.items ∙ c.self.view_is)

pub returns-in_err-reserve-clause-ordered : goal.returns-in_err-reserve-clause-ordered
returns-in_err-reserve-clause-ordered c =
    subst Ascends (sym (ap (λ l. token_numbers l c.self.inside.end) c.reserve.ensures.items ∙ c.self.view_is)) c.contains_number.ensures.ordered

pub put_in-requires-clause-apart : goal.put_in-requires-clause-apart
put_in-requires-clause-apart c = subst (RangesFrom 2 0) (sym c.reserve.ensures.items) c.self.invariant.apart

pub put_in-requires-clause-room : goal.put_in-requires-clause-room
put_in-requires-clause-room c =
    let m = ap most_ranges c.reserve.ensures.items in
    let f = few_ranges c.self.inside.ranges.items in
    let e = ap most_ranges c.as_slice.ensures.value in
    omega (
      arith,
      m,
      f,
      e,
      c.room_for-room.ensures,
      c.len.ensures,
      c.self.inside.ranges.ok.0,
      c.in_ok-reserve.ensures.ok,
      c.reserve.ensures.len,
    )

pub put_in-requires-clause-lacks : goal.put_in-requires-clause-lacks
put_in-requires-clause-lacks c =
    let k = c.in_ok-number.number in
    ap (λ l. is_covered l k) c.reserve.ensures.items ∙ ap (is_covered c.self.inside.ranges.items) c.in_ok-number.ensures
    ∙ (lacked c.self.inside.ranges.items c.self.inside.end _ c.self.invariant c.args.number
    (ap (λ s. has s c.args.number) c.self.view_is ∙ sym c.contains_number.ensures.answer ∙ c.if-contains_number.false)).1

pub invariant_of-self-2 : goal.invariant_of-self-2
invariant_of-self-2 c =
    let rs = c.self.inside.ranges.items in
    let end = c.self.inside.end in
    let k = c.args.number in
    put_ranges rs end _ c.self.invariant c.put_in.new.ranges.items _ k c.put_in.ensures.apart
    (λ j. c.put_in.ensures.put j ∙ ap (λ n. eqb j n || is_covered c.reserve.new.self.items j) c.in_ok-number.ensures
    ∙ ap (λ l. eqb j k || is_covered l j) c.reserve.ensures.items)
    c.put_in.ensures.room (ap (λ s. has s k) c.self.view_is ∙ sym c.contains_number.ensures.answer ∙ c.if-contains_number.false)

pub returns-clause-set : goal.returns-clause-set
returns-clause-set c j =
    let rs = c.self.inside.ranges.items in
    let end = c.self.inside.end in
    let k = c.args.number in
    let put = λ (i : ℕ). c.put_in.ensures.put i ∙ ap (λ n. eqb i n || is_covered c.reserve.new.self.items i) c.in_ok-number.ensures
    ∙ ap (λ l. eqb i k || is_covered l i) c.reserve.ensures.items in
    put_has rs end _ c.self.invariant c.put_in.new.ranges.items _ k
    (put_ranges rs end _ c.self.invariant c.put_in.new.ranges.items _ k c.put_in.ensures.apart put c.put_in.ensures.room
    (ap (λ s. has s k) c.self.view_is ∙ sym c.contains_number.ensures.answer ∙ c.if-contains_number.false)) put j
    ∙ ap (λ s. eqb j k || has s j) c.self.view_is

pub returns-clause-ordered : goal.returns-clause-ordered
returns-clause-ordered c =
    let rs = c.self.inside.ranges.items in
    let end = c.self.inside.end in
    let k = c.args.number in
    asc_set c.put_in.new.ranges.items end _
    (put_ranges rs end _ c.self.invariant c.put_in.new.ranges.items _ k c.put_in.ensures.apart
    (λ j. c.put_in.ensures.put j ∙ ap (λ n. eqb j n || is_covered c.reserve.new.self.items j) c.in_ok-number.ensures
    ∙ ap (λ l. eqb j k || is_covered l j) c.reserve.ensures.items)
    c.put_in.ensures.room (ap (λ s. has s k) c.self.view_is ∙ sym c.contains_number.ensures.answer ∙ c.if-contains_number.false))
