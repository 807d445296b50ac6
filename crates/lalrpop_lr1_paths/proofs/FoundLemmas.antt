-- What is found for a step's rest, with the reduction behind it, is the step's moves: for the code that adds them.
use Rattle.std.proofs.Common.{◌≡◌, ◌∙◌, Bool, true, false, List, [], ◌∷◌, ◌++◌, map, Option, Some, None, sym, ap}
use Rattle.std.specs.Prelude.{Vec}
use Rattle.std.specs.declared.alloc.Global.{Global}
use Rattle.std.specs.Option.{option_map}
use Rattle.std.proofs.lemmas.List.{map-append}
use Rattle.lalrpop_grammar_symbols.specs.Symbols.{Terminal}
use Rattle.lalrpop_grammar_repr.specs.declared.grammar.Grammar.{Grammar}
use Rattle.lalrpop_lr1_theory.specs.Trees.{reduce}
use Rattle.lalrpop_lr1_first.specs.FirstSetsOf.{IsProductionOf}
use Rattle.lalrpop_lr1_first.specs.NumberedGrammars.{IsNumberTableOf}
use Rattle.lalrpop_lr1_first.specs.declared.numbered.Numbered.{Numbered}
use Rattle.lalrpop_lr1_least_trees.specs.MoveViews.{tree_move_view}
use Rattle.lalrpop_lr1_least_trees.specs.declared.tree_move.TreeMove.{TreeMove}
use Rattle.lalrpop_lr1_least_trees.specs.declared.tree_move.TreeMove.TheVariants.{Reduce}
use Rattle.lalrpop_lr1_least_trees.specs.RestForests.{HaveRestMoves}
use Rattle.lalrpop_lr1_paths.specs.CompletionSteps.{step_production, step_rest}
use Rattle.lalrpop_lr1_paths.specs.declared.completion_steps.steps_of_states.CompletionStep.{CompletionStep}
use Rattle.lalrpop_lr1_paths.specs.StepMoves.{AddsFoundIf, AddsStepIf, with_reduction}

module _ (table : Numbered) (Wanted : List Terminal → Type 0) (step : CompletionStep) where
  abbrev Told : Option (Vec TreeMove Global) → Type 0
  Told found = (g : Grammar) → IsNumberTableOf g table →
      HaveRestMoves (IsProductionOf g) (step_rest step) Wanted (option_map (λ moves. map tree_move_view moves.items) found)

  pub step_found : (found : Option (Vec TreeMove Global)) → Told found → (yes : Bool) (old new : List TreeMove) →
      AddsFoundIf (option_map (λ more. more.items) found) step.production old new yes → AddsStepIf table Wanted step old new yes
  step_found None told true old new h = let z : ⊥ = cc in absurd z
  step_found (Some vec) told true old new h =
      let same : vec.items ≡ h.0 = some_one vec.items h.0 h.1 in
      record {
        added = with_reduction step.production h.0;
        is = h.2;
        moves = λ g of.
            let t = told g of in
            record {
              rest = t.rest;
              views = map-append tree_move_view h.0 (Reduce step.production ∷ [])
                  ∙ ap (λ l. l ++ reduce (step_production step) ∷ []) (ap (map tree_move_view) (sym same) ∙ t.moves_are);
            };
      }
    where
      some_one : (a b : List TreeMove) → ◌≡◌ {A = Option (List TreeMove)} (Some a) (Some b) → a ≡ b
      some_one a b e = cc
  step_found None told false old new h = told
  step_found (Some vec) told false old new h = let z : ⊥ = cc in absurd z
