-- The items of all states without their lookaheads: for the test of states.
use Rattle.std.specs.Prelude.{ℕ, ◌≡◌, List, Some, map, filter, slice_get}
use Rattle.lalrpop_grammar_repr.specs.declared.production.Production.{Production}
use Rattle.lalrpop_lr1_core.specs.Dots.{has_moved}
use Rattle.lalrpop_lr1_core.specs.declared.item.Item.{Item}
use Rattle.lalrpop_lr1_core.specs.declared.state.State.{State}
use Rattle.lalrpop_lr1_check_lookaheads.specs.ListTests.{HaveSameElements, of_each_place}
use Rattle.lalrpop_lr1_check_lookaheads.specs.declared.parts.listed.ListedItem.{ListedItem}

-- an item of a state: the state's number, the production and the dot
pub record ItemKey : Type 0 where
  pub state : ℕ
  pub production : Production
  pub dot : ℕ

abbrev pub key_at : ℕ → Production → ℕ → ItemKey
key_at n p i = record { state = n; production = p; dot = i }

abbrev pub item_key : ListedItem → ItemKey
item_key k = key_at k.state k.production.now k.dot

abbrev pub key_of_item : {L : Type 0} → ℕ → Item L → ItemKey
key_of_item n item = key_at n item.production.now item.index

-- the items of the states, each with the number of its state
abbrev pub keys_of_state : {L : Type 0} → ℕ → State L → List ItemKey
keys_of_state n state = map (key_of_item n) state.items.vec

abbrev pub keys_of_states : {L : Type 0} → List (State L) → List ItemKey
keys_of_states states = of_each_place keys_of_state states

-- the items of a state that have moved
abbrev pub moved_keys : {L : Type 0} → ℕ → List (Item L) → List ItemKey
moved_keys n items = map (key_of_item n) (filter has_moved items)

-- each list has the moved items of the state at its place
abbrev pub AreKernels : {L : Type 0} → List (List ItemKey) → List (State L) → Type 0
AreKernels {L} kernels states =
    (m : ℕ) (kernel : List ItemKey) (state : State L) → slice_get kernels m ≡ Some kernel → slice_get states m ≡ Some state →
    HaveSameElements kernel (moved_keys m state.items.vec)
