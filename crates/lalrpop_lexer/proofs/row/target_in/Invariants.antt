use Rattle.std.proofs.Common.{ℕ, ◌-◌, ◌<◌, ◌≤◌, length}
use Rattle.lalrpop_lexer.specs.Numbering.{edge_at}
use Rattle.lalrpop_lexer.specs.Explore.{edges_view}
use Rattle.lalrpop_lexer.proofs.row.target_in.Given as goal

abbrev pub invariant-loop-low : goal.invariant-loop-low
invariant-loop-low l = record {
  within : l.high ≤ length l.edges;
  order : l.low ≤ l.high;
  below : (j : ℕ) → j < l.low → (edge_at (edges_view l.edges) j).1 < l.character;
  above : (j : ℕ) → l.high ≤ j → j < length l.edges → l.character ≤ (edge_at (edges_view l.edges) j).1;
}

abbrev pub decreases-loop-low : goal.decreases-loop-low
decreases-loop-low l = l.high - l.low
