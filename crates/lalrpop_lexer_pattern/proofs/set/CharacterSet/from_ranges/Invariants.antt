use Rattle.std.proofs.Common.{◌≡◌, ℕ, ◌<◌, ◌≤◌, length, take}
use Rattle.lalrpop_lexer_pattern.specs.Sets.{in_ranges, StartsAtMost}
use Rattle.lalrpop_lexer_pattern.proofs.SetLemmas.{range_at}
use Rattle.lalrpop_lexer_pattern.proofs.set.CharacterSet.from_ranges.Given as goal

abbrev pub invariant-loop-range : goal.invariant-loop-range
invariant-loop-range l = record {
  members : (c : ℕ) → c ≤ 0x10_FFFF → in_ranges l.set.ranges.items c ≡ in_ranges (take l.range-index l.range-items) c;
  starts : (k : ℕ) → l.range-index ≤ k → k < length l.range-items
      → StartsAtMost l.set.ranges.items (range_at l.range-items k).start;
}
