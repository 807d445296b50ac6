use Rattle.std.proofs.Common.{◌≤◌, ◌∙◌, drop, length, sym, ap, subst, arith}
use Rattle.lalrpop_sets.specs.RangeEdits.{begins_by}
use Rattle.lalrpop_sets.proofs.RangeEditLemmas.{AreBelow, EndFrom, IsWithout, begins_in, found_seen, in_first, nothing_gone, taken_out}
use Rattle.lalrpop_sets.proofs.ranges.take_out.Goals as goal

pub take_from-requires-clause-place : goal.take_from-requires-clause-place
take_from-requires-clause-place c =
    begins_in c.args.number c.first_from-place.result c.args.ranges.now.items
    (ap (λ l. begins_by c.args.number (drop c.first_from-place.result l)) (sym c.as_slice-2.ensures.value) ∙ sym c.is_at.ensures ∙ c.if-is_at.true)

pub take_from-requires-clause-has : goal.take_from-requires-clause-has
take_from-requires-clause-has c =
    let p = c.first_from-place.result in
    in_first c.args.number p c.args.ranges.now.items (subst (EndFrom c.args.number p) c.as_slice.ensures.value c.first_from-place.ensures.parts.1)
    (ap (λ l. begins_by c.args.number (drop p l)) (sym c.as_slice-2.ensures.value) ∙ sym c.is_at.ensures ∙ c.if-is_at.true)

pub returns-then-is_at-clause-was : goal.returns-then-is_at-clause-was
returns-then-is_at-clause-was c =
    sym (found_seen c.args.number c.first_from-place.result c.args.ranges.now.items _ _ c.is_at.result c.as_slice.ensures.value
    c.as_slice-2.ensures.value c.requires.apart c.first_from-place.ensures.within c.first_from-place.ensures.parts c.is_at.ensures ∙ c.if-is_at.true)

pub returns-then-is_at-clause-gone : goal.returns-then-is_at-clause-gone
returns-then-is_at-clause-gone c =
    let n = c.args.number in
    let p = c.first_from-place.result in
    let rs = c.args.ranges.now.items in
    let f = c.first_from-place.ensures in
    let s = c.as_slice.ensures.value in
    let b = ap (λ l. begins_by n (drop p l)) (sym c.as_slice-2.ensures.value) ∙ sym c.is_at.ensures ∙ c.if-is_at.true in
    (subst (IsWithout n rs) (sym c.take_from.ensures.items)
    (taken_out n p rs c.requires.apart (subst (λ l. p ≤ length l) s f.within) (subst (AreBelow n p) s f.parts.0)
    (in_first n p rs (subst (EndFrom n p) s f.parts.1) b))).gone

pub returns-then-is_at-clause-apart : goal.returns-then-is_at-clause-apart
returns-then-is_at-clause-apart c =
    let n = c.args.number in
    let p = c.first_from-place.result in
    let rs = c.args.ranges.now.items in
    let f = c.first_from-place.ensures in
    let s = c.as_slice.ensures.value in
    let b = ap (λ l. begins_by n (drop p l)) (sym c.as_slice-2.ensures.value) ∙ sym c.is_at.ensures ∙ c.if-is_at.true in
    (subst (IsWithout n rs) (sym c.take_from.ensures.items)
    (taken_out n p rs c.requires.apart (subst (λ l. p ≤ length l) s f.within) (subst (AreBelow n p) s f.parts.0)
    (in_first n p rs (subst (EndFrom n p) s f.parts.1) b))).apart

pub returns-then-is_at-clause-room : goal.returns-then-is_at-clause-room
returns-then-is_at-clause-room c =
    let n = c.args.number in
    let p = c.first_from-place.result in
    let rs = c.args.ranges.now.items in
    let f = c.first_from-place.ensures in
    let s = c.as_slice.ensures.value in
    let b = ap (λ l. begins_by n (drop p l)) (sym c.as_slice-2.ensures.value) ∙ sym c.is_at.ensures ∙ c.if-is_at.true in
    let w = (subst (IsWithout n rs) (sym c.take_from.ensures.items)
    (taken_out n p rs c.requires.apart (subst (λ l. p ≤ length l) s f.within) (subst (AreBelow n p) s f.parts.0)
    (in_first n p rs (subst (EndFrom n p) s f.parts.1) b))).room in
    omega (arith, w, c.requires.room, c.take_from.ensures.capacity)

pub returns-clause-was : goal.returns-clause-was
returns-clause-was c =
    sym (found_seen c.args.number c.first_from-place.result c.args.ranges.now.items _ _ c.is_at.result c.as_slice.ensures.value
    c.as_slice-2.ensures.value c.requires.apart c.first_from-place.ensures.within c.first_from-place.ensures.parts c.is_at.ensures ∙ c.if-is_at.false)

pub returns-clause-gone : goal.returns-clause-gone
returns-clause-gone c k =
    nothing_gone c.args.number c.args.ranges.now.items k
    (found_seen c.args.number c.first_from-place.result c.args.ranges.now.items _ _ c.is_at.result c.as_slice.ensures.value
    c.as_slice-2.ensures.value c.requires.apart c.first_from-place.ensures.within c.first_from-place.ensures.parts c.is_at.ensures ∙ c.if-is_at.false)
