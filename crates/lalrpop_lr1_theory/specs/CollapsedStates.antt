-- States put together by their cores, which are their items without lookaheads: for the collapse of canonical states.
use Rattle.std.specs.Prelude.{ℕ, ◌<◌, true, List, length, Some, ◌≡◌, ◌↔◌, Contains, slice_get}
use Rattle.lalrpop_lr1_theory.specs.Productions.{Symbol, Production, Next}
use Rattle.lalrpop_lr1_theory.specs.States.{Item, LookaheadSet, State, HasItem, HasEdge, HasLookahead, finished_reductions}

-- two states have one core: the same items, whatever may follow them
abbrev pub HaveOneCore : List State → ℕ → ℕ → Type 0
HaveOneCore states n m = (p : Production) (i : ℕ) → HasItem states n p i ↔ HasItem states m p i

-- a place before this one has the number
pub record HasNumberBefore (numbers : List ℕ) (n b : ℕ) : Type 0 where
  pub place : ℕ
  pub earlier : place < n
  pub number : slice_get numbers place ≡ Some b

-- The numbers of the states' cores, one for each state: two states have one number exactly where they have one core, and cores
-- are numbered as they are first seen.
pub record AreCoreNumbers (states : List State) (numbers : List ℕ) : Type 0 where
  pub count : length numbers ≡ length states
  pub by_core : (n m a b : ℕ) → slice_get numbers n ≡ Some a → slice_get numbers m ≡ Some b →
      (a ≡ b) ↔ HaveOneCore states n m
  pub as_seen : (n a b : ℕ) → slice_get numbers n ≡ Some a → b < a → HasNumberBefore numbers n b

-- a state with the core has x in the lookahead of the item
pub record HasLookaheadOfOne (states : List State) (numbers : List ℕ) (a : ℕ) (p : Production) (i : ℕ) (x : Next) : Type 0 where
  pub place : ℕ
  pub number : slice_get numbers place ≡ Some a
  pub lookahead : HasLookahead states place p i x

-- the state has the item, with the token of errors in its lookahead
pub record HasErrorAhead (states : List State) (n : ℕ) (p : Production) (i : ℕ) : Type 0 where
  pub state : State
  pub lookahead : LookaheadSet
  pub at : slice_get states n ≡ Some state
  pub held : Contains state.items (record { production = p; dot = i; lookahead = lookahead })
  pub error : lookahead.error ≡ true

-- a state with the core has it there
pub record HasErrorAheadOfOne (states : List State) (numbers : List ℕ) (a : ℕ) (p : Production) (i : ℕ) : Type 0 where
  pub place : ℕ
  pub number : slice_get numbers place ≡ Some a
  pub ahead : HasErrorAhead states place p i

-- a state with the one core leads by the symbol to one with the other
pub record HasEdgeOfOne (states : List State) (numbers : List ℕ) (a : ℕ) (x : Symbol) (b : ℕ) : Type 0 where
  pub source : ℕ
  pub target : ℕ
  pub source_number : slice_get numbers source ≡ Some a
  pub target_number : slice_get numbers target ≡ Some b
  pub edge : HasEdge states source x target

-- The states are put together by their cores: there is one state for each number of a core, with the items of that core, each
-- once. The lookahead of an item holds what it holds in any state with the core, the edges are theirs by the numbers of cores,
-- the reductions are those by the finished items, and each state has its place as its number.
pub record IsCollapse (states : List State) (numbers : List ℕ) (collapsed : List State) : Type 0 where
  pub numbers_are : AreCoreNumbers states numbers
  pub each : (n a : ℕ) → slice_get numbers n ≡ Some a → a < length collapsed
  pub all : (a : ℕ) → a < length collapsed → (n : ℕ) × (slice_get numbers n ≡ Some a)
  pub items : (n a : ℕ) → slice_get numbers n ≡ Some a → (p : Production) (i : ℕ) →
      HasItem collapsed a p i ↔ HasItem states n p i
  pub lookaheads : (a : ℕ) (p : Production) (i : ℕ) (x : Next) →
      HasLookahead collapsed a p i x ↔ HasLookaheadOfOne states numbers a p i x
  pub errors : (a : ℕ) (p : Production) (i : ℕ) → HasErrorAhead collapsed a p i ↔ HasErrorAheadOfOne states numbers a p i
  pub edges : (a : ℕ) (x : Symbol) (b : ℕ) → HasEdge collapsed a x b ↔ HasEdgeOfOne states numbers a x b
  pub once : (a : ℕ) (state : State) (j k : ℕ) (u v : Item) → slice_get collapsed a ≡ Some state →
      slice_get state.items j ≡ Some u → slice_get state.items k ≡ Some v → u.production ≡ v.production →
      u.dot ≡ v.dot → j ≡ k
  pub reductions : (a : ℕ) (state : State) → slice_get collapsed a ≡ Some state →
      state.reductions ≡ finished_reductions state.items
  pub index : (a : ℕ) (state : State) → slice_get collapsed a ≡ Some state → state.index ≡ a
