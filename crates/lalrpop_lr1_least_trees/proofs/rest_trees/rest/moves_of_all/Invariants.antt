use Rattle.std.proofs.Common.{map, take}
use Rattle.lalrpop_grammar_repr.specs.declared.grammar.Grammar.{Grammar}
use Rattle.lalrpop_lr1_core.specs.Views.{production_symbol_view}
use Rattle.lalrpop_lr1_first.specs.FirstSetsOf.{IsProductionOf}
use Rattle.lalrpop_lr1_first.specs.NumberedGrammars.{IsNumberTableOf}
use Rattle.lalrpop_lr1_least_trees.specs.MoveViews.{tree_move_view}
use Rattle.lalrpop_lr1_least_trees.specs.RestForests.{AreRestMoves, LeavesOfKind}
use Rattle.lalrpop_lr1_least_trees.proofs.rest_trees.rest.moves_of_all.Given as goal

abbrev pub invariant-loop-symbol : goal.invariant-loop-symbol
invariant-loop-symbol l =
    (g : Grammar) → IsNumberTableOf g l.trees.table →
    AreRestMoves (IsProductionOf g) (map production_symbol_view (take l.symbol-index l.symbols)) (LeavesOfKind l.leaves)
    (map tree_move_view l.all.items)
