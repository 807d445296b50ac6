-- States joined by their numbers: the items, edges and reductions of each. For the collapse of states.
use Rattle.std.specs.Prelude.{◌≡◌, ◌<◌, ℕ, List, Some, length, map, slice_get}
use Rattle.lalrpop_lr1_core.specs.declared.state.State.{State}
use Rattle.lalrpop_lr1_build.specs.PublicStates.{finished_entries}
use Rattle.lalrpop_lr1_build.specs.JoinedItems.{AreJoinedFrom}
use Rattle.lalrpop_lr1_build.specs.Renumbering.{renumber}

-- The state is joined from those that have the number of the one at the place: with its items, its edges by the numbers, the
-- reductions by the finished items, and the number.
pub record IsJoinedWith (states : List (State (List ℕ))) (numbers : List ℕ) (place : ℕ) (joined : State (List ℕ)) : Type 0 where
  pub first : State (List ℕ)
  pub at : slice_get states place ≡ Some first
  pub index : slice_get numbers place ≡ Some joined.index.0
  pub items : AreJoinedFrom states numbers place joined.items.vec
  pub shifts : joined.shifts ≡ map (renumber numbers) first.shifts
  pub gotos : joined.gotos ≡ map (renumber numbers) first.gotos
  pub reductions : joined.reductions ≡ finished_entries joined.items.vec

-- the state with the number is joined from those that have it
pub record IsJoinedAs (states : List (State (List ℕ))) (numbers : List ℕ) (a : ℕ) (joined : State (List ℕ)) : Type 0 where
  pub place : ℕ
  pub number : slice_get numbers place ≡ Some a
  pub made : IsJoinedWith states numbers place joined

-- there is one state for each number of the first so many states
pub record AreJoinedByNumbers (states : List (State (List ℕ))) (numbers : List ℕ) (count : ℕ) (joined : List (State (List ℕ))) :
    Type 0 where
  pub each : (n a : ℕ) → n < count → slice_get numbers n ≡ Some a → a < length joined
  pub made : (a : ℕ) (state : State (List ℕ)) → slice_get joined a ≡ Some state → IsJoinedAs states numbers a state
