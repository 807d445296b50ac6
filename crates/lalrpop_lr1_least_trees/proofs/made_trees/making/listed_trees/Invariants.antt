use Rattle.std.proofs.Common.{◌≤◌, ◌+◌, drop, map}
use Rattle.lalrpop_lr1_least_trees.specs.MoveViews.{tree_move_view}
use Rattle.lalrpop_lr1_interpret.specs.ExpandedViews.{listed_views}
use Rattle.lalrpop_lr1_least_trees.specs.SpanNumbers.{AreMaking}
use Rattle.lalrpop_lr1_least_trees.proofs.made_trees.making.listed_trees.Given as goal

abbrev pub invariant-loop-tree_move : goal.invariant-loop-tree_move
invariant-loop-tree_move l = record {
  making : AreMaking (map tree_move_view l.moves) (map tree_move_view (drop l.tree_move-index l.moves)) l.from l.number
      (listed_views l.trees);
  bound : l.number ≤ l.from + l.tree_move-index;
}
