-- What merges for states that conflict keep: for states by lanes.
use Rattle.std.specs.Prelude.{ℕ, ◌≡◌, List, [], Option, None, Some, Contains, length, slice_get}
use Rattle.lalrpop_lr1_core.specs.declared.state.State.{State}
use Rattle.lalrpop_lr1_core.specs.declared.state_index.StateIndex.{StateIndex}
use Rattle.lalrpop_lane_tables.specs.MergedStates.{HasOneEdgeEach, KeepsSpread}
use Rattle.lalrpop_lane.specs.declared.merging.Resolved.{Resolved}
use Rattle.lalrpop_lane.specs.declared.merging.Resolved.TheVariants as resolved

-- each state with a row has so many columns
abbrev pub HaveColumns : ℕ → List (StateIndex × List (List ℕ)) → Type 0
HaveColumns count rows = (n : StateIndex) (columns : List (List ℕ)) → Contains rows (n, columns) → length columns ≡ count

-- no two edges of a state are by one symbol
abbrev pub HaveOneEdgeEach : List (State (List ℕ)) → Type 0
HaveOneEdgeEach states = (n : ℕ) (state : State (List ℕ)) → slice_get states n ≡ Some state → HasOneEdgeEach state

-- whole merges keep states spread over whatever they were spread, and as many came as fewer copies are left
abbrev pub MergesKeep : List (State (List ℕ)) → ℕ → List (State (List ℕ)) → ℕ → Type 0
MergesKeep old left new new_left = KeepsSpread [] [] old left [] [] new new_left

-- a state with a conflict is let be, where its columns don't meet, or resolved by a merge; or that was given up
abbrev pub Resolves : List (State (List ℕ)) → ℕ → List (State (List ℕ)) → Resolved → Type 0
Resolves old left new resolved.Apart = new ≡ old
Resolves old left new (resolved.Merged now) = MergesKeep old left new now
Resolves old left new resolved.GivenUp = Unit {0}

-- so for states one after the other: how many copies are left, or none where something was given up
abbrev pub ResolvesAll : List (State (List ℕ)) → ℕ → List (State (List ℕ)) → Option ℕ → Type 0
ResolvesAll old left new (Some now) = MergesKeep old left new now
ResolvesAll old left new None = Unit {0}
