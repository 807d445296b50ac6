use Rattle.std.proofs.Common.{ℕ, ◌≤◌, ◌<◌}
use Rattle.lalrpop_lexer.specs.Targets.{AddsTargets, start_at}
use Rattle.lalrpop_lexer.proofs.moves.add_edge.Given as goal

abbrev pub invariant-loop-i : goal.invariant-loop-i
invariant-loop-i l = record {
  goes : AddsTargets l.edge l.pieces l.i l.fn.targets l.targets;
  above : (k : ℕ) → l.i ≤ k → k < l.i-end → l.edge.label.start ≤ start_at l.pieces k;
}
