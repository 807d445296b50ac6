-- What the laws say of moves that show a state's move: for those who make certificates.
use Rattle.std.specs.Prelude.{ℕ, List}
use Rattle.lalrpop_grammar_symbols.specs.Symbols.{Text}
use Rattle.lalrpop_grammar_repr.specs.declared.grammar.Grammar.{Grammar}
use Rattle.lalrpop_lr1_theory.specs.Productions.{Next}
use Rattle.lalrpop_lr1_theory.specs.Spans.{SpannedForest, leaf_spans}
use Rattle.lalrpop_lr1_theory.specs.Trees.{Forest, Move}
use Rattle.lalrpop_lr1_first.specs.FirstSetsOf.{IsProductionOf}
use Rattle.lalrpop_judge.specs.Certificates.{AreCountedFrom, MakesMove, number_move}
use Rattle.lalrpop_lr1_least_trees.specs.SpanNumbers.{AreMade, LeadSomewhere, LeadToOne}
use Rattle.lalrpop_lr1_paths.specs.declared.completion_steps.completion_graphs.CompletionGraphs.{CompletionGraphs}
use Rattle.lalrpop_lr1_counterexamples.specs.ShownMoves.{IsPathForest, ShowsMove}

-- Where a forest on a state's path has the moves in front, and the moves show a move behind them, both can be made: the first to trees,
-- the others to one tree.
abbrev pub ShownMovesCanBeMade : Type 0
ShownMovesCanBeMade =
    (g : Grammar) (s : Text) (ways : CompletionGraphs) (n : ℕ) (front : List Move) (m : Move) (x : Next) (all : List Move) (f : Forest) →
    IsPathForest g ways n front f → ShowsMove g s ways n front m x all → LeadSomewhere front × LeadToOne all

-- What is made of them then, with leaves that are counted from 0, makes the move behind the shared trees, before what comes next.
abbrev pub ShownTreesMakeTheMove : Type 0
ShownTreesMakeTheMove =
    (g : Grammar) (s : Text) (ways : CompletionGraphs) (n : ℕ) (front : List Move) (m : Move) (x : Next) (all : List Move) (f : Forest) →
    IsPathForest g ways n front f → ShowsMove g s ways n front m x all → (shared tree : SpannedForest) →
    AreMade front 0 shared → AreMade all 0 tree →
    AreCountedFrom 0 (leaf_spans shared) × MakesMove (IsProductionOf g) s shared x (number_move m) tree
