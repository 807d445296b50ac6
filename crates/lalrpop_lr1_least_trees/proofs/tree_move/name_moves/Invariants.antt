use Rattle.std.proofs.Common.{map, take}
use Rattle.lalrpop_lr1_least_trees.specs.GrammarTrees.{production_by, symbols_by}
use Rattle.lalrpop_lr1_least_trees.specs.MoveViews.{SpellsMoves, tree_move_view}
use Rattle.lalrpop_lr1_least_trees.proofs.tree_move.name_moves.Given as goal

abbrev pub invariant-loop-number : goal.invariant-loop-number
invariant-loop-number l =
    SpellsMoves (symbols_by l.table) (production_by l.table) (take l.number-index l.numbers) (map tree_move_view l.moves.items)
