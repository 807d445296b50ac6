use Rattle.std.proofs.Common.{true}
use Rattle.std.specs.Prelude.{drop}
use Rattle.lalrpop_lr1_paths.specs.StepMoves.{AddsSoFar}
use Rattle.lalrpop_lr1_paths.proofs.completions.step_moves.push_anys.Given as goal

abbrev pub invariant-loop-edge : goal.invariant-loop-edge
invariant-loop-edge l = AddsSoFar l.ways true l.edges (drop l.edge-index l.edges) l.initial.moves.items l.moves.items
