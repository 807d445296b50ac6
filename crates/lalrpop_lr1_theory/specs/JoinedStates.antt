-- States as they are joined, place by place, with the first of those that have one list of items: for the collapse of states.
use Rattle.std.specs.Prelude.{ℕ, ◌<◌, true, List, length, map, Some, ◌≡◌, ◌↔◌, Contains, slice_get}
use Rattle.lalrpop_lr1_theory.specs.Productions.{Production, Next}
use Rattle.lalrpop_lr1_theory.specs.States.{Item, State, finished_reductions}
use Rattle.lalrpop_lr1_theory.specs.CollapsedStates.{HasNumberBefore, HaveOneCore}

-- an item without its lookahead, and those of a state in order
abbrev pub item_core : Item → Production × ℕ
item_core item = (item.production, item.dot)

abbrev pub state_core : State → List (Production × ℕ)
state_core state = map item_core state.items

-- states with one core have their items in one order
abbrev pub HaveCoresInOrder : List State → Type 0
HaveCoresInOrder states =
    (n m : ℕ) (a b : State) → slice_get states n ≡ Some a → slice_get states m ≡ Some b → HaveOneCore states n m →
    state_core a ≡ state_core b

-- one number for each of the lists, the same for two of them exactly where they are one, as they are first seen
pub record AreNumbersAsSeen {X : Type 0} (lists : List X) (numbers : List ℕ) : Type 0 where
  pub count : length numbers ≡ length lists
  pub same : (n m a b : ℕ) (x y : X) → slice_get numbers n ≡ Some a → slice_get numbers m ≡ Some b →
      slice_get lists n ≡ Some x → slice_get lists m ≡ Some y → (a ≡ b) ↔ (x ≡ y)
  pub as_seen : (n a b : ℕ) → slice_get numbers n ≡ Some a → b < a → HasNumberBefore numbers n b

-- x is in the lookahead of the state's item at the place, or the token of errors is
pub record HoldsAt (state : State) (j : ℕ) (x : Next) : Type 0 where
  pub item : Item
  pub at : slice_get state.items j ≡ Some item
  pub follows : Contains item.lookahead.nexts x

pub record HoldsErrorAt (state : State) (j : ℕ) : Type 0 where
  pub item : Item
  pub at : slice_get state.items j ≡ Some item
  pub error : item.lookahead.error ≡ true

-- it is so in a state with the number
pub record HoldsInOne (states : List State) (numbers : List ℕ) (a j : ℕ) (x : Next) : Type 0 where
  pub place : ℕ
  pub state : State
  pub number : slice_get numbers place ≡ Some a
  pub at : slice_get states place ≡ Some state
  pub holds : HoldsAt state j x

pub record HoldsErrorInOne (states : List State) (numbers : List ℕ) (a j : ℕ) : Type 0 where
  pub place : ℕ
  pub state : State
  pub number : slice_get numbers place ≡ Some a
  pub at : slice_get states place ≡ Some state
  pub holds : HoldsErrorAt state j

-- edges by the numbers of the states to which they lead
abbrev pub AreRenumbered : {X : Type 0} → List ℕ → List (X × ℕ) → List (X × ℕ) → Type 0
AreRenumbered {X} numbers edges renumbered =
    (x : X) (b : ℕ) → Contains renumbered (x, b) ↔ ((m : ℕ) × Contains edges (x, m) × (slice_get numbers m ≡ Some b))

-- The state is joined from all those with the number: it has the items of the first of them, in order, the lookahead at each
-- place holds what it holds there in any of them, and the edges are the first one's by the numbers.
pub record IsJoinedState (states : List State) (numbers : List ℕ) (a : ℕ) (first joined : State) : Type 0 where
  pub core : state_core joined ≡ state_core first
  pub holds : (j : ℕ) (x : Next) → HoldsAt joined j x ↔ HoldsInOne states numbers a j x
  pub errors : (j : ℕ) → HoldsErrorAt joined j ↔ HoldsErrorInOne states numbers a j
  pub shifts : AreRenumbered numbers first.shifts joined.shifts
  pub gotos : AreRenumbered numbers first.gotos joined.gotos
  pub reductions : joined.reductions ≡ finished_reductions joined.items
  pub index : joined.index ≡ a

-- the state with the number is joined, with one of those that have the number as the first
pub record IsJoinedAt (states : List State) (numbers : List ℕ) (a : ℕ) (joined : State) : Type 0 where
  pub place : ℕ
  pub first : State
  pub number : slice_get numbers place ≡ Some a
  pub at : slice_get states place ≡ Some first
  pub made : IsJoinedState states numbers a first joined

-- there is one for each number
pub record AreJoinedStates (states : List State) (numbers : List ℕ) (joined : List State) : Type 0 where
  pub each : (n a : ℕ) → slice_get numbers n ≡ Some a → a < length joined
  pub made : (a : ℕ) (state : State) → slice_get joined a ≡ Some state → IsJoinedAt states numbers a state
