use Rattle.std.proofs.Common.{◌≡◌, ◌++◌}
use Rattle.std.specs.Prelude.{drop}
use Rattle.lalrpop_lr1_counterexamples.proofs.shown_moves.shown.joined_moves.Given as goal

abbrev pub invariant-loop-tree_move : goal.invariant-loop-tree_move
invariant-loop-tree_move l = l.all.items ++ drop l.tree_move-index l.front ≡ l.front
