-- When states bring their items with the dot in front, list by list: for the test of what names bring.
use Rattle.std.specs.Prelude.{ℕ, ◌≡◌, Bool, List, [], Contains, Option, None, Some, flat_map, slice_get}
use Rattle.lalrpop_grammar_symbols.specs.Symbols.{Text}
use Rattle.lalrpop_lr1_theory.specs.Productions as theory
use Rattle.lalrpop_lr1_core.specs.declared.item.Item.{Item}
use Rattle.lalrpop_lr1_core.specs.declared.state.State.{State}
use Rattle.lalrpop_lr1_theory.specs.NameClosures.{IsMovedItem, IsNameBegun, IsNameBrought}
use Rattle.lalrpop_lr1_barren.specs.Clauses.{IsMarked}
use Rattle.lalrpop_lr1_check_lookaheads.specs.ListTests.{HoldsAtEach}
use Rattle.lalrpop_lr1_check.specs.EdgeTargets.{targets_of_state}
use Rattle.lalrpop_lr1_check.specs.NamesBehind.{HasSeenItem}
use Rattle.lalrpop_lr1_check.specs.UnmovedItems.{AreItemsOf}

-- the items of a state that may not be there, and of the state with this number
abbrev pub items_or_none : {L : Type 0} → Option (State L) → List (Item L)
items_or_none None = []
items_or_none (Some state) = state.items.vec

abbrev pub items_in_state : {L : Type 0} → List (State L) → ℕ → List (Item L)
items_in_state states n = items_or_none (slice_get states n)

-- no item has moved, and the items are those that the start brings
pub record HasStartClosure {L : Type 0} (G : theory.Production → Type 0) (s : Text) (items : List (Item L)) : Type 0 where
  pub unmoved : HoldsAtEach (λ _ item. item.index ≡ 0) items
  pub brought : AreItemsOf G items (IsNameBegun G s)

-- the items with the dot in front are those that the others bring
abbrev pub HasOwnClosure : {L : Type 0} → (theory.Production → Type 0) → List (Item L) → Type 0
HasOwnClosure G items = AreItemsOf G items (IsNameBrought G (IsMovedItem (HasSeenItem items)))

-- they are in the state, where its number is marked
abbrev pub HasOwnClosureIfMarked : {L : Type 0} → (theory.Production → Type 0) → List Bool → ℕ → State L → Type 0
HasOwnClosureIfMarked G targets n state = IsMarked targets n → HasOwnClosure G state.items.vec

-- they are in each state to which an edge leads
abbrev pub TargetsBringOwn : {L : Type 0} → (theory.Production → Type 0) → List (State L) → Type 0
TargetsBringOwn G states =
    HoldsAtEach (λ n state. Contains (flat_map targets_of_state states) n → HasOwnClosure G state.items.vec) states
