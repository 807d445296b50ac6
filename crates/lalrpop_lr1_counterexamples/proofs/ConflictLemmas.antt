-- Moves on the path to a state, and of the reduction there, as the contracts of their calls tell them: for the moves of conflicts.
use Rattle.std.proofs.Common.{◌≡◌, ℕ, List, length, Option, Some, sym, subst}
use Rattle.lalrpop_grammar_symbols.specs.Symbols.{Text}
use Rattle.lalrpop_grammar_repr.specs.declared.grammar.Grammar.{Grammar}
use Rattle.lalrpop_lr1_theory.specs.Automata.{Walk}
use Rattle.lalrpop_lr1_theory.specs.Productions.{Next, Production, Symbol}
use Rattle.lalrpop_lr1_theory.specs.States.{HasItem, State}
use Rattle.lalrpop_lr1_theory.specs.Trees.{Forest, Move}
use Rattle.lalrpop_lr1_first.specs.FirstSetsOf.{IsProductionOf}
use Rattle.lalrpop_lr1_first.specs.NumberedGrammars.{IsNumberTableOf}
use Rattle.lalrpop_lr1_theory.specs.PathTrees.{IsStateOf, LedBy}
use Rattle.lalrpop_lr1_paths.specs.PathForests.{HaveForestMoves}
use Rattle.lalrpop_lr1_paths.specs.PathTables.{last_steps}
use Rattle.lalrpop_lr1_paths.specs.declared.state_paths.state_paths.StatePaths.{StatePaths}
use Rattle.lalrpop_lr1_paths.specs.declared.completion_steps.completion_graphs.CompletionGraphs.{CompletionGraphs}
use Rattle.lalrpop_lr1_counterexamples.specs.ShownMoves.{AreSteppedStates, IsPathForest, ShowsReduction}

module _ (g : Grammar) (s : Text) (states : List State) (ways : CompletionGraphs) (are : AreSteppedStates g s states ways) (n : ℕ) where
  pub paths_told : (paths : StatePaths) → ways.paths.now ≡ paths → (found : Option (List Move)) →
      ((h : Grammar) (syms : List Symbol) → IsNumberTableOf h paths.trees.now.table → Walk (LedBy (last_steps paths)) syms n →
      HaveForestMoves (IsProductionOf h) syms found) →
      (syms : List Symbol) → Walk (LedBy (last_steps ways.paths.now)) syms n → HaveForestMoves (IsProductionOf g) syms found
  paths_told paths one found told syms walk =
      told g syms (subst (λ it. IsNumberTableOf g it.trees.now.table) one are.completions.of)
      (subst (λ it. Walk (LedBy (last_steps it)) syms n) one walk)

  -- moves on the path to a state are some forest's there
  pub on_path : (front : List Move) → IsStateOf states n →
      ((syms : List Symbol) → Walk (LedBy (last_steps ways.paths.now)) syms n →
      HaveForestMoves (IsProductionOf g) syms (Some front)) →
      (f : Forest) × IsPathForest g ways n front f
  on_path front is told =
      let path = are.paths.all n is in
      let made = told path.0 path.1 in (
        made.trees,
        record { symbols = path.0; walk = path.1; over = made.over; roots_are = made.roots_are; moves_are = sym made.moves_are },
      )

  pub reduction_told : (other : CompletionGraphs) → other ≡ ways →
      (p : Production) (front : List Move) (x : Next) (found : Option (List Move)) →
      (AreSteppedStates g s states other → HasItem states n p (length p.right) → ShowsReduction g s states other n p front x found) →
      HasItem states n p (length p.right) → ShowsReduction g s states ways n p front x found
  reduction_told other one p front x found told held =
      subst (λ it. AreSteppedStates g s states it → HasItem states n p (length p.right) →
      ShowsReduction g s states it n p front x found)
      one told are held
