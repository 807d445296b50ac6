use Rattle.std.proofs.Common.{◌-◌, ◌/◌, ◌+◌, ◌<◌, ◌≤◌, length, sym, inl, inr, arith, lt_of_lt_of_le, lt_of_le_of_lt}
use Rattle.std.proofs.lemmas.Bool.{cases_lt}
use Rattle.std.proofs.lemmas.List.{get_or_read}
use Rattle.lalrpop_lexer_pattern.proofs.SetLemmas.{range_from, range_at, in_range_tells, in_ranges-at, in_ranges-outside, rises_from-mono}
use Rattle.lalrpop_lexer_pattern.proofs.set.CharacterSet.contains.Goals as goal

pub loop-low-preserved-then-character-range : goal.loop-low-preserved-then-character-range
loop-low-preserved-then-character-range c =
    let inv = c.loop-low.invariant in
    let rs = c.args.self.now.ranges.items in
    let m = c.loop-low.low + (c.loop-low.high - c.loop-low.low) / 2 in
    let read = get_or_read rs m _ (omega arith) c.index-range.ensures (range_from 0 0) in
    let below = c.if-character-range.true in
    record {
      within = omega arith;
      left = inv.left;
      right = λ k le hk. lt_of_lt_of_le (rw read at below) (rises_from-mono 0 rs m k c.args.self.now.rising le hk).0;
    }

pub loop-low-preserved : goal.loop-low-preserved
loop-low-preserved c =
    let inv = c.loop-low.invariant in
    let rs = c.args.self.now.ranges.items in
    let m = c.loop-low.low + (c.loop-low.high - c.loop-low.low) / 2 in
    let hm : m < length rs = omega arith in
    let read = get_or_read rs m _ hm c.index-range.ensures (range_from 0 0) in
    let above = c.if-range-character.true in
    record {
      within = inv.within;
      left = λ k hk. lt_of_le_of_lt (rises_from-mono 0 rs k m c.args.self.now.rising (omega arith) hm).1 (rw read at above);
      right = inv.right;
    }

pub returns-else-range-character : goal.returns-else-range-character
returns-else-range-character c =
    let rs = c.args.self.now.ranges.items in
    let m = c.loop-low.low + (c.loop-low.high - c.loop-low.low) / 2 in
    let hm : m < length rs = omega (arith, c.loop-low.invariant.within) in
    let r = range_at rs m in
    let read = get_or_read rs m _ hm c.index-range.ensures (range_from 0 0) in
    let low : r.start ≤ c.args.character = rw read at c.if-character-range.false in
    let high : c.args.character ≤ r.end = rw read at c.if-range-character.false in
    sym (in_ranges-at rs m c.args.character hm (grind (arith, in_range_tells r c.args.character)))

pub returns : goal.returns
returns c =
    let inv = c.loop-low.invariant in
    sym (in_ranges-outside _ _ (λ k hk.
    elim (cases_lt k c.loop-low.low) [ inl h ↦ inr (inv.left k h) | inr h ↦ inl (inv.right k (omega arith) hk) ]))
