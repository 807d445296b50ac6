-- Goals at the steps with whose trees a terminal comes: for the code that makes them.
use Rattle.std.specs.Prelude.{ℕ, ◌<◌, List, [], ◌∷◌, ◌++◌, length, ◌≡◌, ◌⊎◌, Some, slice_get}
use Rattle.lalrpop_grammar_symbols.specs.Symbols.{Terminal}
use Rattle.lalrpop_grammar_repr.specs.declared.grammar.Grammar.{Grammar}
use Rattle.lalrpop_lr1_first.specs.FirstSetsOf.{IsProductionOf}
use Rattle.lalrpop_lr1_first.specs.NumberedGrammars.{IsNumberTableOf}
use Rattle.lalrpop_lr1_first.specs.declared.numbered.Numbered.{Numbered}
use Rattle.lalrpop_lr1_paths.specs.declared.graph_paths.graph.Goal.{Goal}
use Rattle.lalrpop_lr1_least_trees.specs.RestForests.{BeginsWith, HasNoRest, HasRest}
use Rattle.lalrpop_lr1_paths.specs.CompletionSteps.{step_rest}
use Rattle.lalrpop_lr1_paths.specs.declared.completion_steps.steps_of_states.CompletionStep.{CompletionStep}
use Rattle.lalrpop_lr1_paths.specs.CompletionSearches.{HasAnyPath, IsBeginGoal}
use Rattle.lalrpop_lr1_paths.specs.declared.completions.any_completion.AnyCompletion.{AnyCompletion}
use Rattle.lalrpop_lr1_paths.specs.declared.completions.wanted_steps.BeginGoals.{BeginGoals}

-- the step got a goal: the terminal comes with its trees, and a way leads on
pub record IsBeginAdded (any : AnyCompletion) (table : Numbered) (t : Terminal) (step : CompletionStep) (number : ℕ)
    (old new : BeginGoals) : Type 0 where
  pub goal : Goal
  pub numbers : new.numbers.items ≡ old.numbers.items ++ number ∷ []
  pub goals : new.goals.items ≡ old.goals.items ++ goal ∷ []
  pub node : goal.node ≡ step.from
  pub onward : HasAnyPath any step.to
  pub begins : (g : Grammar) → IsNumberTableOf g table → HasRest (IsProductionOf g) (step_rest step) (BeginsWith t)

-- it got none: no way leads on, or the terminal doesn't come
pub record IsBeginPassed (any : AnyCompletion) (table : Numbered) (t : Terminal) (step : CompletionStep) (old new : BeginGoals) : Type 0 where
  pub same : new ≡ old
  pub never : (g : Grammar) → IsNumberTableOf g table → HasAnyPath any step.to →
      HasNoRest (IsProductionOf g) (step_rest step) (BeginsWith t)

abbrev pub AddsBegin : AnyCompletion → Numbered → Terminal → CompletionStep → ℕ → BeginGoals → BeginGoals → Type 0
AddsBegin any table t step number old new = IsBeginAdded any table t step number old new ⊎ IsBeginPassed any table t step old new

-- Of these steps just those have a goal with whose trees the terminal comes and from where a way leads on.
pub record AreGoalsOf (any : AnyCompletion) (table : Numbered) (t : Terminal) (all : List CompletionStep) (numbers : List ℕ) (goals : List Goal)
    (count : ℕ) : Type 0 where
  pub long : length numbers ≡ length goals
  pub sound : (k : ℕ) (goal : Goal) → slice_get goals k ≡ Some goal → IsBeginGoal any all numbers k goal
  pub begins : (g : Grammar) → IsNumberTableOf g table → (k number : ℕ) (step : CompletionStep) → slice_get numbers k ≡ Some number →
      slice_get all number ≡ Some step → HasRest (IsProductionOf g) (step_rest step) (BeginsWith t)
  pub every : (g : Grammar) → IsNumberTableOf g table → (number : ℕ) (step : CompletionStep) → number < count →
      slice_get all number ≡ Some step → HasRest (IsProductionOf g) (step_rest step) (BeginsWith t) → HasAnyPath any step.to →
      (k : ℕ) × (goal : Goal) × (slice_get goals k ≡ Some goal) × (goal.node ≡ step.from)

abbrev pub AreBeginGoals : AnyCompletion → Numbered → Terminal → BeginGoals → Type 0
AreBeginGoals any table t found =
    AreGoalsOf any table t any.ways.now.steps.items found.numbers.items found.goals.items (length any.ways.now.steps.items)
