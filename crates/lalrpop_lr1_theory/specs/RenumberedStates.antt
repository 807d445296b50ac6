-- States by other numbers, and so in another order: for states of which the first and those with gotos come first.
use Rattle.std.specs.Prelude.{ℕ, ◌<◌, List, length, Some, ◌≡◌, slice_get}
use Rattle.lalrpop_lr1_theory.specs.States.{State}
use Rattle.lalrpop_lr1_theory.specs.JoinedStates.{AreRenumbered}

-- the new state does what the old one does, and its edges are the old one's by the numbers
pub record IsRenumberedState (numbers : List ℕ) (old new : State) : Type 0 where
  pub items : new.items ≡ old.items
  pub shifts : AreRenumbered numbers old.shifts new.shifts
  pub gotos : AreRenumbered numbers old.gotos new.gotos
  pub reductions : new.reductions ≡ old.reductions

-- The others are the states by these numbers, one for each state, and each number of theirs once. State 0 keeps its number, and
-- each has its place as its number.
pub record AreRenumberedStates (states others : List State) (numbers : List ℕ) : Type 0 where
  pub count : length numbers ≡ length states
  pub first : (m : ℕ) → slice_get numbers 0 ≡ Some m → m ≡ 0
  pub each : (n m : ℕ) → slice_get numbers n ≡ Some m → m < length others
  pub all : (m : ℕ) → m < length others → (n : ℕ) × (slice_get numbers n ≡ Some m)
  pub apart : (n k m : ℕ) → slice_get numbers n ≡ Some m → slice_get numbers k ≡ Some m → n ≡ k
  pub same : (n m : ℕ) (old new : State) → slice_get numbers n ≡ Some m → slice_get states n ≡ Some old →
      slice_get others m ≡ Some new → IsRenumberedState numbers old new
  pub index : (m : ℕ) (new : State) → slice_get others m ≡ Some new → new.index ≡ m
