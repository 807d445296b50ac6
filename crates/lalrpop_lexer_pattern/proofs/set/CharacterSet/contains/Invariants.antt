use Rattle.std.proofs.Common.{◌-◌, ℕ, ◌≤◌, ◌<◌, length}
use Rattle.lalrpop_lexer_pattern.proofs.SetLemmas.{range_at}
use Rattle.lalrpop_lexer_pattern.proofs.set.CharacterSet.contains.Given as goal

abbrev pub invariant-loop-low : goal.invariant-loop-low
invariant-loop-low l = record {
  within : l.high ≤ length l.self.ranges.items;
  left : (k : ℕ) → k < l.low → (range_at l.self.ranges.items k).end < l.character;
  right : (k : ℕ) → l.high ≤ k → k < length l.self.ranges.items → l.character < (range_at l.self.ranges.items k).start;
}

abbrev pub decreases-loop-low : goal.decreases-loop-low
decreases-loop-low l = l.high - l.low
