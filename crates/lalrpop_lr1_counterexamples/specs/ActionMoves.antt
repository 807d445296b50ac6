-- Which moves show that a state does an action: for those who show conflicts.
use Rattle.std.specs.Prelude.{ℕ, List, ◌∷◌, drop, length, ◌≡◌, ◌⊎◌, Option, Some, None}
use Rattle.lalrpop_grammar_symbols.specs.Symbols.{Text, Terminal}
use Rattle.lalrpop_grammar_symbols.specs.Views.{terminal_view}
use Rattle.lalrpop_grammar_repr.specs.declared.grammar.Grammar.{Grammar}
use Rattle.lalrpop_lr1_theory.specs.Productions as theory
use Rattle.lalrpop_lr1_theory.specs.States.{HasItem, State}
use Rattle.lalrpop_lr1_theory.specs.Trees.{Move, shift}
use Rattle.lalrpop_lr1_core.specs.Views.{production_view}
use Rattle.lalrpop_lr1_core.specs.declared.conflict.Action.{Action}
use Rattle.lalrpop_lr1_core.specs.declared.conflict.Action.TheVariants as actions
use Rattle.lalrpop_lr1_first.specs.FirstSetsOf.{IsProductionOf}
use Rattle.lalrpop_lr1_least_trees.specs.RestForests.{AnyLeaves, HasRest}
use Rattle.lalrpop_lr1_paths.specs.declared.completion_steps.completion_graphs.CompletionGraphs.{CompletionGraphs}
use Rattle.lalrpop_lr1_counterexamples.specs.ShownMoves.{LeadsNowhere, ShowsMove, ShowsReduction}

-- no item's dot stands before the terminal
abbrev pub HasNoShiftItem : List State → ℕ → Terminal → Type 0
HasNoShiftItem states n t =
    (p : theory.Production) (i : ℕ) (b : List theory.Symbol) → HasItem states n p i →
    drop i p.right ≡ theory.terminal t ∷ b → ⊥

-- of some item whose dot does the rest has no trees, or nothing leads out behind it
pub record HasLostShiftItem (g : Grammar) (s : Text) (states : List State) (ways : CompletionGraphs) (n : ℕ) (t : Terminal) : Type 0 where
  pub production : theory.Production
  pub dot : ℕ
  pub rest : List theory.Symbol
  pub held : HasItem states n production dot
  pub at : drop dot production.right ≡ theory.terminal t ∷ rest
  pub lost : HasRest (IsProductionOf g) rest AnyLeaves → LeadsNowhere g s states ways n dot production.left AnyLeaves

-- moves that show a shift of the terminal, or none where the state has no item for it, or one that leads nowhere
abbrev pub ShowsShiftOf : Grammar → Text → List State → CompletionGraphs → ℕ → List Move → Terminal → Option (List Move) → Type 0
ShowsShiftOf g s states ways n front t None = HasNoShiftItem states n t ⊎ HasLostShiftItem g s states ways n t
ShowsShiftOf g s states ways n front t (Some all) = ShowsMove g s ways n front (shift t) (Some t) all

-- Moves that show the action: a reduction by the production of an item of the state, before what comes next; or a shift.
abbrev pub ShowsAction : Grammar → Text → List State → CompletionGraphs → ℕ → List Move → theory.Next → Action →
    Option (List Move) → Type 0
ShowsAction g s states ways n front x (actions.Reduce p) found =
    HasItem states n (production_view p.now) (length (production_view p.now).right) →
    ShowsReduction g s states ways n (production_view p.now) front x found
ShowsAction g s states ways n front x (actions.Shift t target) found = ShowsShiftOf g s states ways n front (terminal_view t) found
