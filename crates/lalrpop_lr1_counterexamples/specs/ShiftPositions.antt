-- Where a state may shift a terminal: for those who show shifts.
use Rattle.std.specs.Prelude.{ℕ, List, ◌∷◌, drop, map, ◌≡◌, Option, Some, None, Contains}
use Rattle.lalrpop_grammar_symbols.specs.Symbols.{Terminal}
use Rattle.lalrpop_grammar_symbols.specs.Views.{terminal_view}
use Rattle.lalrpop_grammar_symbols.specs.declared.terminal.TerminalString.{TerminalString}
use Rattle.lalrpop_grammar_repr.specs.declared.production.Symbol.TheVariants as symbols
use Rattle.lalrpop_lr1_theory.specs.Productions as theory
use Rattle.lalrpop_lr1_theory.specs.States.{HasItem, State}
use Rattle.lalrpop_lr1_core.specs.Dots.{at_dot, behind_cursor}
use Rattle.lalrpop_lr1_core.specs.Views.{production_symbol_view, production_view}
use Rattle.lalrpop_lr1_core.specs.declared.item.Item.{Item}
use Rattle.lalrpop_lr1_counterexamples.specs.declared.shift_positions.positions.ShiftPosition.{ShiftPosition}

-- The state has the item of the place, whose dot stands before the terminal, with the rest behind that.
pub record IsShiftPosition (states : List State) (n : ℕ) (t : Terminal) (place : ShiftPosition) : Type 0 where
  pub held : HasItem states n (production_view place.production.now) place.index
  pub terminal_is : terminal_view place.terminal.now ≡ t
  pub at : drop place.index (production_view place.production.now).right
      ≡ theory.terminal t ∷ map production_symbol_view place.rest.now

-- such a place, or none where the state has no item whose dot stands before the terminal
abbrev pub IsShiftPositionIf : List State → ℕ → Terminal → Option ShiftPosition → Type 0
IsShiftPositionIf states n t None =
    (p : theory.Production) (i : ℕ) (b : List theory.Symbol) → HasItem states n p i →
    drop i p.right ≡ theory.terminal t ∷ b → ⊥
IsShiftPositionIf states n t (Some place) = IsShiftPosition states n t place

-- the place is that of the item, whose dot stands before the terminal
pub record IsPositionAt {L : Type 0} (item : Item L) (t : TerminalString) (place : ShiftPosition) : Type 0 where
  pub at : at_dot item ≡ Some (symbols.Terminal t)
  pub production_is : place.production ≡ item.production
  pub index_is : place.index ≡ item.index
  pub terminal_is : place.terminal.now ≡ t
  pub rest_is : place.rest.now ≡ behind_cursor item

-- the place, or none where the dot doesn't
abbrev pub IsPositionAtIf : {L : Type 0} → Item L → TerminalString → Option ShiftPosition → Type 0
IsPositionAtIf item t None = at_dot item ≡ Some (symbols.Terminal t) → ⊥
IsPositionAtIf item t (Some place) = IsPositionAt item t place

-- the dots of none of these items stand before the terminal
abbrev pub StandNowhere : {L : Type 0} → List (Item L) → TerminalString → Type 0
StandNowhere items t = (item : Item _) → Contains items item → at_dot item ≡ Some (symbols.Terminal t) → ⊥

-- the place of one of these items
pub record IsPositionOfItems {L : Type 0} (items : List (Item L)) (t : TerminalString) (place : ShiftPosition) : Type 0 where
  pub item : Item L
  pub has : Contains items item
  pub is : IsPositionAt item t place

abbrev pub IsFirstPositionIf : {L : Type 0} → List (Item L) → TerminalString → Option ShiftPosition → Type 0
IsFirstPositionIf items t None = StandNowhere items t
IsFirstPositionIf items t (Some place) = IsPositionOfItems items t place
