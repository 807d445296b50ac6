-- Items joined place by place: what may follow one is what may follow it in any state that is joined.
use Rattle.std.specs.Prelude.{◌≡◌, ◌||◌, ℕ, Bool, true, List, [], ◌∷◌, Option, Some, None, slice_get}
use Rattle.lalrpop_lr1_core.specs.declared.item.Item.{Item}
use Rattle.lalrpop_lr1_core.specs.declared.state.State.{State}
use Rattle.lalrpop_sets.specs.AscendingLists.{has}
use Rattle.lalrpop_lr1_build.specs.StateCores.{core_in_state, dotted_production, items_core}

-- the lookahead of an item, or none
abbrev pub lookahead_of : Option (Item (List ℕ)) → List ℕ
lookahead_of None = []
lookahead_of (Some item) = item.lookahead

-- whether the lookahead of the item at a place has the number
abbrev pub has_at : List (Item (List ℕ)) → ℕ → ℕ → Bool
has_at items j k = has (lookahead_of (slice_get items j)) k

-- the item, with what either has in its lookahead
pub record IsJoinedItem (one other joined : Item (List ℕ)) : Type 0 where
  pub core : dotted_production joined ≡ dotted_production one
  pub lookahead : (k : ℕ) → has joined.lookahead k ≡ (has one.lookahead k || has other.lookahead k)

-- items, each joined with that at the same place of as many others
abbrev pub AreJoinedItems : List (Item (List ℕ)) → List (Item (List ℕ)) → List (Item (List ℕ)) → Type 0
AreJoinedItems [] [] [] = Unit {0}
AreJoinedItems (a ∷ ones) (b ∷ others) (u ∷ joined) = IsJoinedItem a b u × AreJoinedItems ones others joined
AreJoinedItems ones others joined = ⊥

-- a state with the number has it in the lookahead of its item at the place
pub record HasInOne (states : List (State (List ℕ))) (numbers : List ℕ) (a j k : ℕ) : Type 0 where
  pub place : ℕ
  pub state : State (List ℕ)
  pub number : slice_get numbers place ≡ Some a
  pub at : slice_get states place ≡ Some state
  pub mark : has_at state.items.vec j k ≡ true

-- the items are those of the state at the place, each with what it has in its lookahead in any state with the same number
pub record AreJoinedFrom (states : List (State (List ℕ))) (numbers : List ℕ) (place : ℕ)
    (joined : List (Item (List ℕ))) : Type 0 where
  pub number : ℕ
  pub state : State (List ℕ)
  pub numbered : slice_get numbers place ≡ Some number
  pub at : slice_get states place ≡ Some state
  pub core : items_core joined ≡ core_in_state state
  pub within : (j k : ℕ) → has_at joined j k ≡ true → HasInOne states numbers number j k
  pub all : (j k : ℕ) → HasInOne states numbers number j k → has_at joined j k ≡ true
