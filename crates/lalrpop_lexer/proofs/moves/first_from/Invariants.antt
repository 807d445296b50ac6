use Rattle.std.proofs.Common.{ℕ, ◌-◌, ◌<◌, ◌≤◌, length}
use Rattle.lalrpop_lexer.specs.Targets.{start_at}
use Rattle.lalrpop_lexer.proofs.moves.first_from.Given as goal

abbrev pub invariant-loop-low : goal.invariant-loop-low
invariant-loop-low l = record {
  within : l.high ≤ length l.pieces;
  order : l.low ≤ l.high;
  below : (i : ℕ) → i < l.low → start_at l.pieces i < l.number;
  above : (i : ℕ) → l.high ≤ i → i < length l.pieces → l.number ≤ start_at l.pieces i;
}

abbrev pub decreases-loop-low : goal.decreases-loop-low
decreases-loop-low l = l.high - l.low
