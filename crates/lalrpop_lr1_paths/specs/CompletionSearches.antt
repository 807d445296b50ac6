-- What the searches for completions find: for those who ask for completions.
use Rattle.std.specs.Prelude.{ℕ, List, ◌≡◌, Option, Some, None, slice_get}
use Rattle.lalrpop_grammar_symbols.specs.Symbols.{Text, Terminal}
use Rattle.lalrpop_grammar_symbols.specs.Views.{terminal_view}
use Rattle.lalrpop_grammar_repr.specs.declared.grammar.Grammar.{Grammar}
use Rattle.lalrpop_lr1_theory.specs.Productions as theory
use Rattle.lalrpop_lr1_theory.specs.States.{State, HasItem}
use Rattle.lalrpop_lr1_theory.specs.Trees.{Move}
use Rattle.lalrpop_lr1_first.specs.FirstSetsOf.{IsProductionOf}
use Rattle.lalrpop_lr1_first.specs.NumberedGrammars.{IsNumberTableOf}
use Rattle.lalrpop_lr1_least_trees.specs.BeginForests.{IsWanted}
use Rattle.lalrpop_lr1_least_trees.specs.BeginTables.{AreBeginTrees}
use Rattle.lalrpop_lr1_paths.specs.GraphPaths.{HasPathIfSome, HasPathToGoal, IsPathTo}
use Rattle.lalrpop_lr1_paths.specs.Graphs.{graph_edges}
use Rattle.lalrpop_lr1_paths.specs.PathSearches.{AreGoalPaths}
use Rattle.lalrpop_lr1_paths.specs.declared.graph_paths.graph.Goal.{Goal}
use Rattle.lalrpop_lr1_paths.specs.declared.graph_paths.paths.GoalPath.{GoalPath}
use Rattle.lalrpop_lr1_paths.specs.declared.graph_paths.paths.GoalPaths.{GoalPaths}
use Rattle.lalrpop_lr1_least_trees.specs.GrammarTrees.{symbols_by}
use Rattle.lalrpop_lr1_theory.specs.CompletionMoves.{LeadsOut}
use Rattle.lalrpop_lr1_theory.specs.PathTrees.{LedBy}
use Rattle.lalrpop_lr1_least_trees.specs.RestForests.{BeginsWith, HasRest}
use Rattle.lalrpop_lr1_paths.specs.PathTables.{last_steps}
use Rattle.lalrpop_lr1_paths.specs.CompletionGraphs.{AreCompletionGraphs, ways_table}
use Rattle.lalrpop_lr1_paths.specs.CompletionSteps.{step_rest}
use Rattle.lalrpop_lr1_paths.specs.declared.completion_steps.completion_graphs.CompletionGraphs.{CompletionGraphs}
use Rattle.lalrpop_lr1_paths.specs.declared.completion_steps.steps_of_states.CompletionStep.{CompletionStep}
use Rattle.lalrpop_lr1_paths.specs.declared.completions.any_completion.AnyCompletion.{AnyCompletion}
use Rattle.lalrpop_lr1_paths.specs.declared.completions.end_completion.EndCompletion.{EndCompletion}
use Rattle.lalrpop_lr1_paths.specs.declared.completions.wanted_completion.WantedCompletion.{WantedCompletion}
use Rattle.lalrpop_lr1_paths.specs.declared.completions.wanted_steps.WantedSteps.{WantedSteps}

-- Some moves lead out, and their leaves are such as are asked for.
pub record HaveLeadOut (G : theory.Production → Type 0) (s : Text) (Item : ℕ → theory.Production → ℕ → Type 0)
    (Back : ℕ → theory.Symbol → ℕ → Type 0) (n : ℕ) (B : Text) (Wanted : List Terminal → Type 0)
    (ms : List Move) : Type 0 where
  pub left : List Terminal
  pub leads : LeadsOut G s Item Back n B ms left
  pub wanted : Wanted left

-- these moves, or none where no moves lead out so
abbrev pub LeadOutIfSome : (theory.Production → Type 0) → Text → (ℕ → theory.Production → ℕ → Type 0) →
    (ℕ → theory.Symbol → ℕ → Type 0) →
    ℕ → Text → (List Terminal → Type 0) → Option (List Move) → Type 0
LeadOutIfSome G s Item Back n B Wanted None = (ms : List Move) (w : List Terminal) → LeadsOut G s Item Back n B ms w → Wanted w → ⊥
LeadOutIfSome G s Item Back n B Wanted (Some ms) = HaveLeadOut G s Item Back n B Wanted ms

-- the same of the states of a grammar, by the paths of the steps
abbrev pub TellsCompletion : Grammar → Text → List State → CompletionGraphs → ℕ → Text → (List Terminal → Type 0) →
    Option (List Move) → Type 0
TellsCompletion g s states it = LeadOutIfSome (IsProductionOf g) s (HasItem states) (LedBy (last_steps it.paths.now))

-- the search for any completions has ended
pub record IsAnyCompletion (it : AnyCompletion) : Type 0 where
  pub graphs : AreCompletionGraphs it.ways.now
  pub found : AreGoalPaths it.found
  pub graph : it.found.graph.now ≡ it.ways.now.any
  pub goals : it.found.goals.now ≡ it.ways.now.goals.items

-- the same of completions on which no terminal comes
pub record IsEndCompletion (it : EndCompletion) : Type 0 where
  pub graphs : AreCompletionGraphs it.ways.now
  pub found : AreGoalPaths it.found
  pub graph : it.found.graph.now ≡ it.ways.now.empty
  pub goals : it.found.goals.now ≡ it.ways.now.goals.items

-- a way leads out from the node
abbrev pub HasAnyPath : AnyCompletion → ℕ → Type 0
HasAnyPath it node = HasPathToGoal (graph_edges it.found.graph.now) it.found.goals.now node

-- the path was found from the node; from some node
abbrev pub IsPathFrom : GoalPaths → ℕ → GoalPath → Type 0
IsPathFrom found node path = IsPathTo (graph_edges found.graph.now) found.goals.now node path.edges.items path.goal

abbrev pub IsSomePath : GoalPaths → GoalPath → Type 0
IsSomePath found path = (node : ℕ) × IsPathFrom found node path

-- something where a way leads out from the node, and none where none does
abbrev pub HasAnyPathIf : {X : Type 0} → AnyCompletion → ℕ → Option X → Type 0
HasAnyPathIf it node found = HasPathIfSome (graph_edges it.found.graph.now) it.found.goals.now node found

-- the goal is at the step whose number is listed at its place, and from there a way leads on
pub record IsBeginGoal (any : AnyCompletion) (steps : List CompletionStep) (numbers : List ℕ) (k : ℕ) (goal : Goal) : Type 0 where
  pub number : ℕ
  pub step : CompletionStep
  pub listed : slice_get numbers k ≡ Some number
  pub at_step : slice_get steps number ≡ Some step
  pub node : goal.node ≡ step.from
  pub onward : HasAnyPath any step.to

-- Steps with whose trees the terminal comes, each with a goal.
pub record AreWantedSteps (it : WantedSteps) : Type 0 where
  pub any : IsAnyCompletion it.any.now
  pub begins : AreBeginTrees it.begins
  pub trees : it.begins.trees.now ≡ it.any.now.ways.now.paths.now.trees.now
  pub wanted : IsWanted (symbols_by (ways_table it.any.now.ways.now)) (terminal_view it.terminal) it.begins.wanted
  pub goals : (k : ℕ) (goal : Goal) → slice_get it.goals.items k ≡ Some goal →
      IsBeginGoal it.any.now it.any.now.ways.now.steps.items it.numbers.items k goal
  pub begin : (g : Grammar) → IsNumberTableOf g (ways_table it.any.now.ways.now) → (k number : ℕ) (step : CompletionStep) →
      slice_get it.numbers.items k ≡ Some number → slice_get it.any.now.ways.now.steps.items number ≡ Some step →
      HasRest (IsProductionOf g) (step_rest step) (BeginsWith (terminal_view it.terminal))
  pub all : (g : Grammar) → IsNumberTableOf g (ways_table it.any.now.ways.now) → (number : ℕ) (step : CompletionStep) →
      slice_get it.any.now.ways.now.steps.items number ≡ Some step →
      HasRest (IsProductionOf g) (step_rest step) (BeginsWith (terminal_view it.terminal)) → HasAnyPath it.any.now step.to →
      (k : ℕ) × (goal : Goal) × (slice_get it.goals.items k ≡ Some goal) × (goal.node ≡ step.from)

-- the search for completions on which the terminal comes has ended
pub record IsWantedCompletion (it : WantedCompletion) : Type 0 where
  pub steps : AreWantedSteps it.steps.now
  pub found : AreGoalPaths it.found
  pub graph : it.found.graph.now ≡ it.steps.now.any.now.ways.now.empty
  pub goals : it.found.goals.now ≡ it.steps.now.goals.items
