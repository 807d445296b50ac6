use Rattle.std.proofs.Common.{◌≤◌, length, sym, subst, arith}
use Rattle.lalrpop_sets.proofs.RangeEditLemmas.{AreBelow, EndFrom, IsWith, ends_from, few_ranges, put_into}
use Rattle.lalrpop_sets.proofs.ranges.put_in.Goals as goal

pub put_at-requires-clause-room : goal.put_at-requires-clause-room
put_at-requires-clause-room c = let f = few_ranges c.args.ranges.now.items in omega (arith, f, c.requires.room)

pub returns-clause-put : goal.returns-clause-put
returns-clause-put c =
    let n = c.args.number in
    let p = c.first_from-place.result in
    let rs = c.args.ranges.now.items in
    let f = c.first_from-place.ensures in
    let s = c.as_slice.ensures.value in
    let m = c.saturating_sub.result in
    (subst (IsWith n rs) (sym c.put_at.ensures.items)
    (put_into n m p rs c.saturating_sub.ensures c.requires.apart (subst (λ l. p ≤ length l) s f.within) (subst (AreBelow m p) s f.parts.0)
    (ends_from n m p rs c.saturating_sub.ensures (subst (EndFrom m p) s f.parts.1)) c.requires.lacks)).put

pub returns-clause-apart : goal.returns-clause-apart
returns-clause-apart c =
    let n = c.args.number in
    let p = c.first_from-place.result in
    let rs = c.args.ranges.now.items in
    let f = c.first_from-place.ensures in
    let s = c.as_slice.ensures.value in
    let m = c.saturating_sub.result in
    (subst (IsWith n rs) (sym c.put_at.ensures.items)
    (put_into n m p rs c.saturating_sub.ensures c.requires.apart (subst (λ l. p ≤ length l) s f.within) (subst (AreBelow m p) s f.parts.0)
    (ends_from n m p rs c.saturating_sub.ensures (subst (EndFrom m p) s f.parts.1)) c.requires.lacks)).apart

pub returns-clause-room : goal.returns-clause-room
returns-clause-room c =
    let n = c.args.number in
    let p = c.first_from-place.result in
    let rs = c.args.ranges.now.items in
    let f = c.first_from-place.ensures in
    let s = c.as_slice.ensures.value in
    let m = c.saturating_sub.result in
    let w = (subst (IsWith n rs) (sym c.put_at.ensures.items)
    (put_into n m p rs c.saturating_sub.ensures c.requires.apart (subst (λ l. p ≤ length l) s f.within) (subst (AreBelow m p) s f.parts.0)
    (ends_from n m p rs c.saturating_sub.ensures (subst (EndFrom m p) s f.parts.1)) c.requires.lacks)).room in
    omega (arith, w, c.requires.room, c.put_at.ensures.capacity)
