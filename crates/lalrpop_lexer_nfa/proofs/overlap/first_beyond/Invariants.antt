use Rattle.std.proofs.Common.{ℕ, ◌-◌, ◌<◌, ◌≤◌, length}
use Rattle.lalrpop_lexer_nfa.specs.Ranges.{nth_test}
use Rattle.lalrpop_lexer_nfa.proofs.overlap.first_beyond.Given as goal

abbrev pub invariant-loop-low : goal.invariant-loop-low
invariant-loop-low l = record {
  within : l.high ≤ length l.ordered;
  order : l.low ≤ l.high;
  below : (i : ℕ) → i < l.low → (nth_test l.ordered i).start ≤ l.number;
  above : (i : ℕ) → l.high ≤ i → i < length l.ordered → l.number < (nth_test l.ordered i).start;
}

abbrev pub decreases-loop-low : goal.decreases-loop-low
decreases-loop-low l = l.high - l.low
