-- A step leads out as the item does over which it is: for the moves of completions.
use Rattle.std.proofs.Common.{◌≡◌, ℕ, List, ◌∷◌, ◌++◌, Option, subst}
use Rattle.lalrpop_grammar_symbols.specs.Symbols.{Terminal, Text}
use Rattle.lalrpop_lr1_theory.specs.Productions as theory
use Rattle.lalrpop_lr1_theory.specs.Trees.{AreOver, Forest, Move, moves, reduce, roots, yield}
use Rattle.lalrpop_lr1_theory.specs.States.{HasItem, State}
use Rattle.lalrpop_lr1_theory.specs.CompletionMoves.{LeadsOut, steps}
use Rattle.lalrpop_lr1_theory.specs.PathTrees.{LastSteps, LedBy}
use Rattle.lalrpop_lr1_paths.specs.CompletionSteps.{IsCompletionNode, IsCompletionStep, step_production, step_rest}
use Rattle.lalrpop_lr1_paths.specs.declared.completion_steps.steps_of_states.CompletionStep.{CompletionStep}
use Rattle.lalrpop_lr1_paths.proofs.NodeLemmas.{node_one}

module _ (G : theory.Production → Type 0) (s : Text) (states : List State) (table : LastSteps) (symbol_at : ℕ → Option theory.Symbol)
    (names : ℕ) where
  pub step_out : (step : CompletionStep) (is : IsCompletionStep G states table symbol_at names step) (n : ℕ) (B : Text) →
      IsCompletionNode symbol_at names step.from n B → (us : Forest) → AreOver G us → roots us ≡ step_rest step → (ms : List Move)
      (w : List Terminal) → LeadsOut G s (HasItem states) (LedBy table) is.before (step_production step).left ms w →
      LeadsOut G s (HasItem states) (LedBy table) n B (moves us ++ reduce (step_production step) ∷ ms) (yield us ++ w)
  step_out step is n B node us over us_roots ms w leads =
      let same = node_one symbol_at names step.from is.state n is.name B is.from node in
      subst (λ k. LeadsOut G s (HasItem states) (LedBy table) k B (moves us ++ reduce (step_production step) ∷ ms)
      (yield us ++ w)) same.0
      (subst
      (λ A. LeadsOut G s (HasItem states) (LedBy table) is.state A (moves us ++ reduce (step_production step) ∷ ms)
      (yield us ++ w)) same.1
      (steps (step_production step) is.name (step_rest step) us is.held is.at is.back over us_roots leads))
