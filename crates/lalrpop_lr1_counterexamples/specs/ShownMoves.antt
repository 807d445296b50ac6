-- Which moves show that a state allows a move before what comes next: for those who show conflicts.
use Rattle.std.specs.Prelude.{ℕ, List, ◌∷◌, ◌++◌, length, map, ◌≡◌, IfOk, Option, Result, Some, None, Vec}
use Rattle.std.specs.Option.{option_map}
use Rattle.std.specs.Global.{Global}
use Rattle.lalrpop_grammar_symbols.specs.Symbols.{Text, Terminal}
use Rattle.lalrpop_grammar_symbols.specs.Views.{terminal_view}
use Rattle.lalrpop_grammar_symbols.specs.declared.names.NonterminalString.{NonterminalString}
use Rattle.lalrpop_grammar_repr.specs.declared.grammar.Grammar.{Grammar}
use Rattle.lalrpop_lr1_theory.specs.Automata.{IsCover, Walk}
use Rattle.lalrpop_lr1_theory.specs.Productions as theory
use Rattle.lalrpop_lr1_theory.specs.Productions.{first}
use Rattle.lalrpop_lr1_theory.specs.States.{State, HasEdge, HasItem}
use Rattle.lalrpop_lr1_theory.specs.Trees.{AreOver, Forest, Move, moves, reduce, roots, shift}
use Rattle.lalrpop_lr1_first.specs.FirstSetsOf.{IsProductionOf}
use Rattle.lalrpop_lr1_least_trees.specs.MoveViews.{tree_move_view}
use Rattle.lalrpop_lr1_least_trees.specs.declared.tree_move.TreeMove.{TreeMove}
use Rattle.lalrpop_lr1_theory.specs.CompletionMoves.{IsContinued, LeadsOut}
use Rattle.lalrpop_lr1_theory.specs.PathTrees.{ArePaths, IsBack, LedBy}
use Rattle.lalrpop_lr1_least_trees.specs.RestForests.{AnyLeaves, HasRest}
use Rattle.lalrpop_lr1_paths.specs.PathTables.{last_steps}
use Rattle.lalrpop_lr1_paths.specs.CompletionGraphs.{AreCompletions}
use Rattle.lalrpop_lr1_paths.specs.declared.completion_steps.completion_graphs.CompletionGraphs.{CompletionGraphs}
use Rattle.lalrpop_lr1_paths.specs.CompletionSearches.{IsEndCompletion, IsWantedCompletion, TellsCompletion}
use Rattle.lalrpop_lr1_counterexamples.specs.declared.shown_moves.next_completion.NextCompletion.{NextCompletion}
use Rattle.lalrpop_lr1_counterexamples.specs.declared.shown_moves.next_completion.NextCompletion.TheVariants as nexts

-- what comes next by these completions, and the steps that they go
abbrev pub next_of : NextCompletion → theory.Next
next_of (nexts.End out) = None
next_of (nexts.Terminal out) = Some (terminal_view out.steps.now.terminal)

abbrev pub next_ways : NextCompletion → CompletionGraphs
next_ways (nexts.End out) = out.ways.now
next_ways (nexts.Terminal out) = out.steps.now.any.now.ways.now

abbrev pub IsNextCompletion : NextCompletion → Type 0
IsNextCompletion (nexts.End out) = IsEndCompletion out
IsNextCompletion (nexts.Terminal out) = IsWantedCompletion out

-- leaves of which the first is this, or there is none
abbrev pub ComesNext : theory.Next → List Terminal → Type 0
ComesNext x w = first w ≡ x

-- The states are a grammar's, with paths to them, and these are the steps that lead out.
pub record AreSteppedStates (g : Grammar) (s : Text) (states : List State) (ways : CompletionGraphs) : Type 0 where
  pub completions : AreCompletions g s states ways
  pub cover : IsCover (IsProductionOf g) s (HasItem states) (HasEdge states)
  pub paths : ArePaths states (last_steps ways.paths.now)

-- On the path to the state stands a forest with these moves.
pub record IsPathForest (g : Grammar) (ways : CompletionGraphs) (state : ℕ) (front : List Move) (f : Forest) : Type 0 where
  pub symbols : List theory.Symbol
  pub walk : Walk (LedBy (last_steps ways.paths.now)) symbols state
  pub over : AreOver (IsProductionOf g) f
  pub roots_are : roots f ≡ symbols
  pub moves_are : moves f ≡ front

-- Behind each forest on the path with these moves in front the others go on with this move to one whole tree, whose next leaf is that
-- which comes next, or there is none.
pub record ShowsMove (g : Grammar) (s : Text) (ways : CompletionGraphs) (state : ℕ) (front : List Move) (m : Move) (x : theory.Next)
    (all : List Move) : Type 0 where
  pub more : List Move
  pub left : List Terminal
  pub all_are : all ≡ front ++ m ∷ more
  pub whole : (f : Forest) → IsPathForest g ways state front f → IsContinued (IsProductionOf g) s f (m ∷ more) left
  pub next : first left ≡ x

-- no moves lead out before what comes next from the state so many places back
abbrev pub LeadsNowhere : Grammar → Text → List State → CompletionGraphs → ℕ → ℕ → Text → (List Terminal → Type 0) → Type 0
LeadsNowhere g s states ways state places B Wanted =
    (m : ℕ) (ms : List Move) (w : List Terminal) → IsBack (LedBy (last_steps ways.paths.now)) places state m →
    LeadsOut (IsProductionOf g) s (HasItem states) (LedBy (last_steps ways.paths.now)) m B ms w → Wanted w → ⊥

-- moves that show the reduction, or none where nothing leads out behind it before what comes next
abbrev pub ShowsReduction : Grammar → Text → List State → CompletionGraphs → ℕ → theory.Production → List Move → theory.Next →
    Option (List Move) →
    Type 0
ShowsReduction g s states ways state p front x None =
    LeadsNowhere g s states ways state (length p.right) p.left (ComesNext x)
ShowsReduction g s states ways state p front x (Some all) = ShowsMove g s ways state front (reduce p) x all

-- the same of a shift by an item, with these symbols behind the terminal: none where these have no trees, or nothing leads out
abbrev pub ShowsShift : Grammar → Text → List State → CompletionGraphs → ℕ → theory.Production → ℕ → List theory.Symbol →
    List Move → Terminal →
    Option (List Move) → Type 0
ShowsShift g s states ways state p dot rest front t None =
    HasRest (IsProductionOf g) rest AnyLeaves → LeadsNowhere g s states ways state dot p.left AnyLeaves
ShowsShift g s states ways state p dot rest front t (Some all) = ShowsMove g s ways state front (shift t) (Some t) all

-- what is told of a completion before what comes next, where it is told
abbrev pub TellsNextCompletion : {E : Type 0} → NextCompletion → ℕ → NonterminalString → Result (Option (Vec TreeMove Global)) E → Type 0
TellsNextCompletion next state name told = IfOk told (λ found. (g : Grammar) (s : Text) (states : List State) →
    AreCompletions g s states (next_ways next) →
    TellsCompletion g s states (next_ways next) state name.0 (ComesNext (next_of next))
    (option_map (λ moves. map tree_move_view moves.items) found))
