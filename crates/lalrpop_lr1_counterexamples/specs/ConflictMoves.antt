-- Which moves show a conflict: for those who make certificates.
use Rattle.std.specs.Prelude.{ℕ, List, length, map, ◌⊎◌, Option, Some, None}
use Rattle.lalrpop_grammar_symbols.specs.Symbols.{Text}
use Rattle.lalrpop_grammar_repr.specs.declared.grammar.Grammar.{Grammar}
use Rattle.lalrpop_grammar_repr.specs.declared.production.Production.{Production}
use Rattle.lalrpop_lr1_theory.specs.Automata.{Walk}
use Rattle.lalrpop_lr1_theory.specs.Productions as theory
use Rattle.lalrpop_lr1_theory.specs.States.{HasItem, State}
use Rattle.lalrpop_lr1_theory.specs.Trees.{Forest, Move}
use Rattle.lalrpop_lr1_first.specs.FirstSetsOf.{IsProductionOf}
use Rattle.lalrpop_lr1_core.specs.Views.{production_view}
use Rattle.lalrpop_lr1_core.specs.declared.conflict.Conflict.{Conflict}
use Rattle.lalrpop_lr1_least_trees.specs.MoveViews.{tree_move_view}
use Rattle.lalrpop_lr1_theory.specs.PathTrees.{LedBy}
use Rattle.lalrpop_lr1_paths.specs.PathForests.{HaveForestMoves}
use Rattle.lalrpop_lr1_paths.specs.PathTables.{last_steps}
use Rattle.lalrpop_lr1_paths.specs.declared.completion_steps.completion_graphs.CompletionGraphs.{CompletionGraphs}
use Rattle.lalrpop_lr1_counterexamples.specs.ShownMoves.{IsPathForest, ShowsReduction}
use Rattle.lalrpop_lr1_counterexamples.specs.ActionMoves.{ShowsAction}
use Rattle.lalrpop_lr1_counterexamples.specs.declared.conflict_moves.conflict.ConflictMoves.{ConflictMoves}

-- the state has the production's item with the dot at the end
abbrev pub HasFinishedItem : List State → ℕ → Production → Type 0
HasFinishedItem states n p = HasItem states n (production_view p) (length (production_view p).right)

-- The moves show the conflict: a forest on the state's path has the shared ones, the others show the reduction and the other action.
pub record AreConflictMoves {L : Type 0} (g : Grammar) (s : Text) (states : List State) (ways : CompletionGraphs) (n : ℕ) (x : theory.Next)
    (conflict : Conflict L) (it : ConflictMoves) : Type 0 where
  pub forest : Forest
  pub on_path : IsPathForest g ways n (map tree_move_view it.shared.items) forest
  pub reduces : ShowsReduction g s states ways n (production_view conflict.production.now) (map tree_move_view it.shared.items) x
      (Some (map tree_move_view it.reducing.items))
  pub acts : ShowsAction g s states ways n (map tree_move_view it.shared.items) x conflict.action
      (Some (map tree_move_view it.other.items))

-- some of them aren't there: trees for the symbols on the path, or moves that show the one or the other
abbrev pub LacksConflictMoves : {L : Type 0} → Grammar → Text → List State → CompletionGraphs → ℕ → theory.Next →
    Conflict L → Type 0
LacksConflictMoves g s states ways n x conflict =
    ((syms : List theory.Symbol) → Walk (LedBy (last_steps ways.paths.now)) syms n → HaveForestMoves (IsProductionOf g) syms None)
    ⊎ ((front : List Move) × (ShowsReduction g s states ways n (production_view conflict.production.now) front x None
    ⊎ ShowsAction g s states ways n front x conflict.action None))

abbrev pub ShowConflict : {L : Type 0} → Grammar → Text → List State → CompletionGraphs → ℕ → theory.Next → Conflict L →
    Option ConflictMoves → Type 0
ShowConflict g s states ways n x conflict None = LacksConflictMoves g s states ways n x conflict
ShowConflict g s states ways n x conflict (Some it) = AreConflictMoves g s states ways n x conflict it
