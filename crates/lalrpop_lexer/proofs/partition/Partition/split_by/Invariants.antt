use Rattle.std.proofs.Common.{ℕ, ◌≤◌, ◌<◌}
use Rattle.lalrpop_lexer.specs.Targets.{start_at}
use Rattle.lalrpop_lexer.specs.Splits.{SplitsBy}
use Rattle.lalrpop_lexer.proofs.partition.Partition.split_by.Given as goal

abbrev pub invariant-loop-i : goal.invariant-loop-i
invariant-loop-i l = record {
  splits : SplitsBy l.edge l.pieces l.i l.fn.self.numbers.items l.fn.self.splits.items l.self.numbers.items l.self.splits.items;
  above : (k : ℕ) → l.i ≤ k → k < l.i-end → l.edge.label.start ≤ start_at l.pieces k;
}
