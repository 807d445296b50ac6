use Rattle.std.proofs.Common.{map, take}
use Rattle.lalrpop_lr1_least_trees.specs.MoveViews.{SpellsMoves, tree_move_view}
use Rattle.lalrpop_lr1_least_trees.specs.BeginTables.{derived_production_by, derived_symbol_by}
use Rattle.lalrpop_lr1_least_trees.proofs.begin_trees.begin_trees.BeginTrees.name_moves.Given as goal

abbrev pub invariant-loop-number : goal.invariant-loop-number
invariant-loop-number l =
    SpellsMoves (derived_symbol_by l.self.trees.now.table) (derived_production_by l.self.trees.now.table l.self.derived)
    (take l.number-index l.numbers) (map tree_move_view l.moves.items)
