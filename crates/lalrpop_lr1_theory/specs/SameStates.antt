-- When states are the same up to their numbers, lookaheads aside: for the law on collapsed states and those without lookaheads.
use Rattle.std.specs.Prelude.{ℕ, ◌<◌, List, length, Some, ◌≡◌, ◌↔◌, Contains, slice_get}
use Rattle.lalrpop_lr1_theory.specs.Productions.{Symbol, Production}
use Rattle.lalrpop_lr1_theory.specs.States.{LookaheadSet, State, HasItem, HasEdge}

-- the state reduces by the production
pub record HasReductionBy (states : List State) (n : ℕ) (p : Production) : Type 0 where
  pub state : State
  pub lookahead : LookaheadSet
  pub at : slice_get states n ≡ Some state
  pub held : Contains state.reductions (record { production = p; lookahead = lookahead })

-- The states are the others by other numbers, one of theirs for each and each once: with the same items, edges that lead to
-- states by these numbers, and reductions by the same productions.
pub record AreSameByNumbers (states others : List State) (numbers : List ℕ) : Type 0 where
  pub count : length numbers ≡ length states
  pub each : (n m : ℕ) → slice_get numbers n ≡ Some m → m < length others
  pub all : (m : ℕ) → m < length others → (n : ℕ) × (slice_get numbers n ≡ Some m)
  pub apart : (n k m : ℕ) → slice_get numbers n ≡ Some m → slice_get numbers k ≡ Some m → n ≡ k
  pub items : (n m : ℕ) → slice_get numbers n ≡ Some m → (p : Production) (i : ℕ) →
      HasItem states n p i ↔ HasItem others m p i
  pub edges : (n m k l : ℕ) (x : Symbol) → slice_get numbers n ≡ Some m → slice_get numbers k ≡ Some l →
      HasEdge states n x k ↔ HasEdge others m x l
  pub reductions : (n m : ℕ) → slice_get numbers n ≡ Some m → (p : Production) →
      HasReductionBy states n p ↔ HasReductionBy others m p

-- the states are the others up to their numbers
abbrev pub AreSameUpToNumbers : List State → List State → Type 0
AreSameUpToNumbers states others = (numbers : List ℕ) × AreSameByNumbers states others numbers
