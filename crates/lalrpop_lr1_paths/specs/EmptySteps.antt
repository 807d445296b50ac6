-- How steps are listed behind whose nonterminals nothing may come: for the code that lists them.
use Rattle.std.specs.Prelude.{ℕ, [], ◌∷◌, ◌++◌, ◌≡◌, ◌⊎◌}
use Rattle.lalrpop_grammar_repr.specs.declared.grammar.Grammar.{Grammar}
use Rattle.lalrpop_lr1_first.specs.FirstSetsOf.{IsProductionOf}
use Rattle.lalrpop_lr1_first.specs.NumberedGrammars.{IsNumberTableOf}
use Rattle.lalrpop_lr1_first.specs.declared.numbered.Numbered.{Numbered}
use Rattle.lalrpop_lr1_paths.specs.declared.graph_paths.graph.Edge.{Edge}
use Rattle.lalrpop_lr1_least_trees.specs.RestForests.{HasNoRest, HasRest, NoLeaves}
use Rattle.lalrpop_lr1_paths.specs.CompletionSteps.{LeadsAsStep, step_rest}
use Rattle.lalrpop_lr1_paths.specs.declared.completion_steps.steps_of_states.CompletionStep.{CompletionStep}
use Rattle.lalrpop_lr1_paths.specs.declared.completion_steps.completion_graphs.ListedSteps.{ListedSteps}

-- the step was listed, since nothing may come behind its nonterminal
pub record IsListed (table : Numbered) (step : CompletionStep) (number : ℕ) (old new : ListedSteps) : Type 0 where
  pub edge : Edge
  pub numbers : new.numbers.items ≡ old.numbers.items ++ number ∷ []
  pub edges : new.edges.items ≡ old.edges.items ++ edge ∷ []
  pub leads : LeadsAsStep step edge
  pub empty : (g : Grammar) → IsNumberTableOf g table → HasRest (IsProductionOf g) (step_rest step) NoLeaves

-- it was passed, since something comes there
pub record IsPassed (table : Numbered) (step : CompletionStep) (old new : ListedSteps) : Type 0 where
  pub same : new ≡ old
  pub never : (g : Grammar) → IsNumberTableOf g table → HasNoRest (IsProductionOf g) (step_rest step) NoLeaves

abbrev pub ListsStep : Numbered → CompletionStep → ℕ → ListedSteps → ListedSteps → Type 0
ListsStep table step number old new = IsListed table step number old new ⊎ IsPassed table step old new
