-- What flows along edges between slots: that something is there, and what may follow it. For closures of items.
use Rattle.std.specs.Prelude.{ℕ, ◌+◌, ◌<◌, ◌≤◌, Bool, true, ◌||◌, ◌&&◌, not, List, [], ◌∷◌}
use Rattle.std.specs.Prelude.{map, nat_eq, ◌≡◌}
use Rattle.std.specs.Prelude.{Option, Some, None, slice_get, slice_index_or}
use Rattle.lalrpop_sets.specs.AscendingLists.{has}
use Rattle.lalrpop_lr1_first.specs.Numbers.{set_of_number}

-- an edge from a slot to another, with what can come first behind what it stands for
pub record FlowEdge : Type 0 where
  pub from : ℕ
  pub to : ℕ
  pub first : List ℕ

-- the marks of a slot: none, or the one that says that something is there, and its lookahead's
abbrev pub slot_marks : {L : Type 0} → (L → List ℕ) → ℕ → Option L → List ℕ
slot_marks marks there None = []
slot_marks marks there (Some l) = there ∷ marks l

abbrev pub all_marks : {L : Type 0} → (L → List ℕ) → ℕ → List (Option L) → List (List ℕ)
all_marks marks there slots = map (slot_marks marks there) slots

-- what comes through an edge: where lookaheads count, the first tokens; and, where the rest can be empty, what the source has
abbrev pub comes : Bool → ℕ → List ℕ → List ℕ → ℕ → Bool
comes firsts end first marks k = (firsts && (not (nat_eq k end) && has first k)) || (has first end && has marks k)

-- no mark is as large
abbrev pub AreBelow : ℕ → List (List ℕ) → Type 0
AreBelow n sets = (s k : ℕ) → has (set_of_number sets s) k ≡ true → k < n

-- no lookahead has a mark past the number of the token of errors
abbrev pub MarksAreWithin : {L : Type 0} → (L → List ℕ) → ℕ → List (Option L) → Type 0
MarksAreWithin {L} marks end slots =
    (s : ℕ) (l : L) → slice_index_or slots s None ≡ Some l → (k : ℕ) → has (marks l) k ≡ true → k ≤ end + 1

-- the edges are between these slots, and their first tokens are in range
pub record IsEdgeWithin (end count : ℕ) (e : FlowEdge) : Type 0 where
  pub from : e.from < count
  pub to : e.to < count
  pub first : (k : ℕ) → has e.first k ≡ true → k ≤ end

abbrev pub EdgesAreWithin : ℕ → ℕ → List FlowEdge → Type 0
EdgesAreWithin end count edges = (r : ℕ) (e : FlowEdge) → slice_get edges r ≡ Some e → IsEdgeWithin end count e

-- What flows along the edges from what stands in the slots: a mark past all tokens says that something is there.
pub data Flows (firsts : Bool) (end : ℕ) (edges : List FlowEdge) (seed : List (List ℕ)) : ℕ → ℕ → Type 0 where
  begins : (s k : ℕ) → has (set_of_number seed s) k ≡ true → Flows firsts end edges seed s k
  brings : (r : ℕ) (e : FlowEdge) → slice_get edges r ≡ Some e → Flows firsts end edges seed e.from (end + 2) →
      Flows firsts end edges seed e.to (end + 2)
  starts : (r : ℕ) (e : FlowEdge) (k : ℕ) → slice_get edges r ≡ Some e → Flows firsts end edges seed e.from (end + 2) →
      firsts ≡ true → not (nat_eq k end) && has e.first k ≡ true → Flows firsts end edges seed e.to k
  passes : (r : ℕ) (e : FlowEdge) (k : ℕ) → slice_get edges r ≡ Some e → Flows firsts end edges seed e.from (end + 2) →
      has e.first end ≡ true → Flows firsts end edges seed e.from k → Flows firsts end edges seed e.to k
