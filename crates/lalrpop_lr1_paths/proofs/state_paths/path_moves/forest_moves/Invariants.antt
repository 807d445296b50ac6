use Rattle.std.proofs.Common.{List, map, take}
use Rattle.lalrpop_grammar_repr.specs.declared.grammar.Grammar.{Grammar}
use Rattle.lalrpop_lr1_theory.specs.Productions.{Symbol}
use Rattle.lalrpop_lr1_first.specs.FirstSetsOf.{IsProductionOf}
use Rattle.lalrpop_lr1_first.specs.NumberedGrammars.{IsNumberTableOf}
use Rattle.lalrpop_lr1_first.specs.Numbers.{SpellsSymbols}
use Rattle.lalrpop_lr1_least_trees.specs.GrammarTrees.{symbols_by}
use Rattle.lalrpop_lr1_least_trees.specs.MoveViews.{tree_move_view}
use Rattle.lalrpop_lr1_paths.specs.PathForests.{AreForestMoves}
use Rattle.lalrpop_lr1_paths.proofs.state_paths.path_moves.forest_moves.Given as goal

abbrev pub invariant-loop-symbol : goal.invariant-loop-symbol
invariant-loop-symbol l = (g : Grammar) (syms : List Symbol) → IsNumberTableOf g l.trees.table →
    SpellsSymbols (symbols_by l.trees.table) (take l.symbol-index l.symbols) syms →
    AreForestMoves (IsProductionOf g) syms (map tree_move_view l.moves.items)
