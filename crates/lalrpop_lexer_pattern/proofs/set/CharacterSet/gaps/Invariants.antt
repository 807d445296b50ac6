use Rattle.std.proofs.Common.{◌≡◌, ℕ, ◌+◌, ◌<◌, ◌≤◌, ◌&&◌, not, true, nat_le, length, take}
use Rattle.lalrpop_lexer_pattern.specs.Sets.{in_ranges, StartsAtMost}
use Rattle.lalrpop_lexer_pattern.proofs.SetLemmas.{range_at}
use Rattle.lalrpop_lexer_pattern.proofs.set.CharacterSet.gaps.Given as goal

abbrev pub invariant-loop-range : goal.invariant-loop-range
invariant-loop-range l = record {
  within : l.next ≤ 0x11_0000;
  starts : StartsAtMost l.gaps.ranges.items l.next;
  before : l.range-index < length l.range-items → l.next ≤ (range_at l.range-items l.range-index).start;
  passed : (c : ℕ) → in_ranges (take l.range-index l.range-items) c ≡ true → c < l.next;
  members : (c : ℕ) → in_ranges l.gaps.ranges.items c
      ≡ (nat_le (c + 1) l.next && not (in_ranges (take l.range-index l.range-items) c));
}
