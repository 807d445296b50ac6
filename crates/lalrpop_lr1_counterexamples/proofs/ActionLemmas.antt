-- A shift from the place that was found is one of the terminal: for the answer of moves that show an action.
use Rattle.std.proofs.Common.{◌≡◌, ◌∙◌, ℕ, List, ◌∷◌, map, drop, Option, Some, None, sym, ap, subst, inr}
use Rattle.lalrpop_grammar_symbols.specs.Symbols.{Terminal, Text}
use Rattle.lalrpop_grammar_symbols.specs.Views.{terminal_view}
use Rattle.lalrpop_grammar_repr.specs.declared.grammar.Grammar.{Grammar}
use Rattle.lalrpop_lr1_theory.specs.Productions as theory
use Rattle.lalrpop_lr1_theory.specs.States.{HasItem, State}
use Rattle.lalrpop_lr1_theory.specs.Trees.{Move, shift}
use Rattle.lalrpop_lr1_core.specs.Views.{production_symbol_view, production_view}
use Rattle.lalrpop_lr1_paths.specs.declared.completion_steps.completion_graphs.CompletionGraphs.{CompletionGraphs}
use Rattle.lalrpop_lr1_counterexamples.specs.ShiftPositions.{IsShiftPosition}
use Rattle.lalrpop_lr1_counterexamples.specs.declared.shift_positions.positions.ShiftPosition.{ShiftPosition}
use Rattle.lalrpop_lr1_counterexamples.specs.ShownMoves.{ShowsMove, ShowsShift}
use Rattle.lalrpop_lr1_counterexamples.specs.ActionMoves.{ShowsShiftOf}

module _ (g : Grammar) (s : Text) (states : List State) (ways : CompletionGraphs) (n : ℕ) (front : List Move) (t : Terminal) (place : ShiftPosition)
    (is : IsShiftPosition states n t place) where
  abbrev Shows : Option (List Move) → Type 0
  Shows = ShowsShift g s states ways n (production_view place.production.now) place.index (map production_symbol_view place.rest.now) front
      (terminal_view place.terminal.now)

  its_terminal : drop place.index (production_view place.production.now).right
      ≡ theory.terminal (terminal_view place.terminal.now) ∷ map production_symbol_view place.rest.now
  its_terminal = is.at ∙ ap (λ u. theory.terminal u ∷ map production_symbol_view place.rest.now) (sym is.terminal_is)

  pub shift_told : (found : Option (List Move)) →
      (HasItem states n (production_view place.production.now) place.index →
      drop place.index (production_view place.production.now).right
      ≡ theory.terminal (terminal_view place.terminal.now) ∷ map production_symbol_view place.rest.now → Shows found) →
      ShowsShiftOf g s states ways n front t found
  shift_told None h =
      inr (record {
        production = production_view place.production.now;
        dot = place.index;
        rest = map production_symbol_view place.rest.now;
        held = is.held;
        at = is.at;
        lost = h is.held its_terminal;
      })
  shift_told (Some all) h = subst (λ u. ShowsMove g s ways n front (shift u) (Some u) all) is.terminal_is (h is.held its_terminal)
