-- Moves of steps that are added to others: for the code that makes completions.
use Rattle.std.specs.Prelude.{ℕ, Bool, true, false, List, [], ◌∷◌, ◌++◌, map, ◌≡◌, ⊤, Option, Some, None}
use Rattle.std.specs.Prelude.{Contains, slice_get}
use Rattle.lalrpop_grammar_symbols.specs.Symbols.{Text, Terminal}
use Rattle.lalrpop_grammar_repr.specs.declared.grammar.Grammar.{Grammar}
use Rattle.lalrpop_grammar_repr.specs.declared.production.Production.{Production}
use Rattle.std.specs.Borrow.{Bor}
use Rattle.lalrpop_lr1_theory.specs.States.{State, HasItem}
use Rattle.lalrpop_lr1_theory.specs.Trees.{Move, moves, reduce}
use Rattle.lalrpop_lr1_first.specs.FirstNumbers.{name_count}
use Rattle.lalrpop_lr1_first.specs.FirstSetsOf.{IsProductionOf}
use Rattle.lalrpop_lr1_first.specs.NumberedGrammars.{IsNumberTableOf}
use Rattle.lalrpop_lr1_first.specs.declared.numbered.Numbered.{Numbered}
use Rattle.lalrpop_lr1_paths.specs.GraphPaths.{IsPathTo}
use Rattle.lalrpop_lr1_paths.specs.Graphs.{graph_edges}
use Rattle.lalrpop_lr1_paths.specs.declared.graph_paths.graph.Edge.{Edge}
use Rattle.lalrpop_lr1_paths.specs.declared.graph_paths.graph.Goal.{Goal}
use Rattle.lalrpop_lr1_least_trees.specs.GrammarTrees.{symbols_by}
use Rattle.lalrpop_lr1_least_trees.specs.MoveViews.{tree_move_view}
use Rattle.lalrpop_lr1_least_trees.specs.declared.tree_move.TreeMove.{TreeMove}
use Rattle.lalrpop_lr1_least_trees.specs.declared.tree_move.TreeMove.TheVariants.{Reduce}
use Rattle.lalrpop_lr1_theory.specs.CompletionMoves.{LeadsOut}
use Rattle.lalrpop_lr1_theory.specs.PathTrees.{LedBy}
use Rattle.lalrpop_lr1_least_trees.specs.RestForests.{HasNoRest, HasRest}
use Rattle.lalrpop_lr1_paths.specs.PathTables.{last_steps}
use Rattle.lalrpop_lr1_paths.specs.CompletionGraphs.{AreCompletions, ways_table}
use Rattle.lalrpop_lr1_paths.specs.CompletionSteps.{IsCompletionNode, step_production, step_rest}
use Rattle.lalrpop_lr1_paths.specs.declared.completion_steps.completion_graphs.CompletionGraphs.{CompletionGraphs}
use Rattle.lalrpop_lr1_paths.specs.declared.completion_steps.steps_of_states.CompletionStep.{CompletionStep}
use Rattle.lalrpop_lr1_paths.specs.CompletionSearches.{TellsCompletion}

-- moves of trees, and the reduction behind them
abbrev pub with_reduction : Bor Production → List TreeMove → List TreeMove
with_reduction p more = more ++ Reduce p ∷ []

-- these moves and the reduction were added, or there were none
abbrev pub AddsFoundIf : Option (List TreeMove) → Bor Production → List TreeMove → List TreeMove → Bool → Type 0
AddsFoundIf found p old new true = (more : List TreeMove) × (found ≡ Some more) × (new ≡ old ++ with_reduction p more)
AddsFoundIf found p old new false = found ≡ None

-- the moves are those of such trees for what stands behind the step's nonterminal, and its reduction
pub record AreStepMoves (g : Grammar) (Wanted : List Terminal → Type 0) (step : CompletionStep) (added : List TreeMove) : Type 0 where
  pub rest : HasRest (IsProductionOf g) (step_rest step) Wanted
  pub views : map tree_move_view added ≡ moves rest.trees ++ reduce (step_production step) ∷ []

-- a step's moves were added
pub record AddsStep (table : Numbered) (Wanted : List Terminal → Type 0) (step : CompletionStep) (old new : List TreeMove) : Type 0 where
  pub added : List TreeMove
  pub is : new ≡ old ++ added
  pub moves : (g : Grammar) → IsNumberTableOf g table → AreStepMoves g Wanted step added

-- they were, or there are no such trees
abbrev pub AddsStepIf : Numbered → (List Terminal → Type 0) → CompletionStep → List TreeMove → List TreeMove → Bool → Type 0
AddsStepIf table Wanted step old new true = AddsStep table Wanted step old new
AddsStepIf table Wanted step old new false =
    (g : Grammar) → IsNumberTableOf g table → HasNoRest (IsProductionOf g) (step_rest step) Wanted

-- the graph of all steps, or that of those behind whose nonterminals nothing may come
abbrev pub step_edges : CompletionGraphs → Bool → List Edge
step_edges it true = graph_edges it.any
step_edges it false = graph_edges it.empty

-- what comes on a way in all, by what comes on its end: anything, or the same
abbrev pub ComesInAll : Bool → List Terminal → List Terminal → Type 0
ComesInAll true w all = ⊤
ComesInAll false w all = all ≡ w

-- each number is an edge's
abbrev pub AreGraphEdges : List Edge → List ℕ → Type 0
AreGraphEdges edges es = (e : ℕ) → Contains es e → (edge : Edge) × (slice_get edges e ≡ Some edge)

module _ (g : Grammar) (s : Text) (states : List State) (it : CompletionGraphs) where
  abbrev pub LeadsBy : ℕ → Text → List Move → List Terminal → Type 0
  LeadsBy = LeadsOut (IsProductionOf g) s (HasItem states) (LedBy (last_steps it.paths.now))

  abbrev pub IsNodeIn : ℕ → ℕ → Text → Type 0
  IsNodeIn = IsCompletionNode (symbols_by (ways_table it)) (name_count (ways_table it))

  -- From the node at which a path ends moves that lead out are, behind these, moves that lead out from the path's first node.
  pub record LeadsAlong (kind : Bool) (n : ℕ) (B : Text) (last : ℕ) (ms : List Move) : Type 0 where
    pub state : ℕ
    pub name : Text
    pub node : IsNodeIn last state name
    pub leads : (ns : List Move) (w : List Terminal) → LeadsBy state name ns w → (all : List Terminal) × LeadsBy n B (ms ++ ns) all
        × ComesInAll kind w all

  -- the same of what is left of a path
  pub record LeadsSoFar (kind : Bool) (goals : List Goal) (n : ℕ) (B : Text) (left : List ℕ) (goal : ℕ)
      (ms : List Move) : Type 0 where
    pub here : ℕ
    pub path : IsPathTo (step_edges it kind) goals here left goal
    pub along : LeadsAlong kind n B here ms

-- The moves of the steps over the first of these edges were added: wherever a path goes over all of them, the others are left of it.
pub record AddsSoFar (it : CompletionGraphs) (kind : Bool) (edges left : List ℕ) (old new : List TreeMove) : Type 0 where
  pub added : List TreeMove
  pub is : new ≡ old ++ added
  pub along : (g : Grammar) (s : Text) (states : List State) → AreCompletions g s states it → (goals : List Goal) (node goal : ℕ) →
      IsPathTo (step_edges it kind) goals node edges goal → (n : ℕ) (B : Text) → IsNodeIn g s states it node n B →
      LeadsSoFar g s states it kind goals n B left goal (map tree_move_view added)

-- all were added; some has none, which no graph of a grammar's states has
abbrev pub AddsAlongIf : CompletionGraphs → Bool → List ℕ → List TreeMove → List TreeMove → Bool → Type 0
AddsAlongIf it kind edges old new true = AddsSoFar it kind edges [] old new
AddsAlongIf it kind edges old new false = (g : Grammar) (s : Text) (states : List State) → AreCompletions g s states it → ⊥

-- a completion from the node was added
pub record AddsWay (it : CompletionGraphs) (node : ℕ) (Wanted : List Terminal → Type 0) (old new : List TreeMove) : Type 0 where
  pub added : List TreeMove
  pub is : new ≡ old ++ added
  pub leads : (g : Grammar) (s : Text) (states : List State) → AreCompletions g s states it → (n : ℕ) (B : Text) →
      IsNodeIn g s states it node n B → TellsCompletion g s states it n B Wanted (Some (map tree_move_view added))

-- one was, or there is none
abbrev pub AddsWayIf : CompletionGraphs → ℕ → (List Terminal → Type 0) → List TreeMove → List TreeMove → Bool → Type 0
AddsWayIf it node Wanted old new true = AddsWay it node Wanted old new
AddsWayIf it node Wanted old new false =
    (g : Grammar) (s : Text) (states : List State) → AreCompletions g s states it → (n : ℕ) (B : Text) →
    IsNodeIn g s states it node n B → TellsCompletion g s states it n B Wanted None
