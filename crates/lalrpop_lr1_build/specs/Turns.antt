-- States by numbers, each with its kernel, as they are built one after another: for the construction of states.
use Rattle.std.specs.Prelude.{◌≡◌, ◌⊎◌, ◌<◌, ◌≤◌, ℕ, Bool, List, [], ◌++◌, length, Some, Contains, slice_get}
use Rattle.lalrpop_sets.specs.AscendingLists.{Ascends}
use Rattle.lalrpop_lr1_first.specs.declared.numbered.Numbered.{Numbered}
use Rattle.lalrpop_lr1_build.specs.Edges.{AreDistinctKernels}
use Rattle.lalrpop_lr1_build.specs.Kernels.{AreKernelItems, IsClosureOf, places_of}
use Rattle.lalrpop_lr1_build.specs.Shifts.{shifted_items}
use Rattle.lalrpop_lr1_build.specs.declared.states.kernel.StateKernel.{StateKernel}
use Rattle.lalrpop_lr1_build.specs.declared.states.numbered_states.NumberedState.{NumberedState}

-- the kernel of the items that are shifted over a symbol
abbrev pub shifted_kernel : {L : Type 0} → Numbered → NumberedState L → ℕ → StateKernel L
shifted_kernel table state s = record { items = shifted_items table.places.items s state.items }

-- the state has one edge for each symbol behind a dot of its items, to the kernel of the shifted items
pub record HasEdges {L : Type 0} (table : Numbered) (kernels : List (StateKernel L)) (state : NumberedState L) : Type 0 where
  pub ascending : Ascends (places_of state.edges)
  pub leads : (s m : ℕ) → Contains state.edges (s, m) → slice_get kernels m ≡ Some (shifted_kernel table state s)
  pub some : (s m : ℕ) → Contains state.edges (s, m) → shifted_items table.places.items s state.items ≡ [] → ⊥
  pub all : (s : ℕ) → (shifted_items table.places.items s state.items ≡ [] → ⊥) → (m : ℕ) × Contains state.edges (s, m)

-- one turn: the state of a kernel, to whose edges new kernels are added
pub record IsTurn {L : Type 0} (marks : L → List ℕ) (firsts : Bool) (in_order : L → Type 0) (table : Numbered)
    (kernel : StateKernel L) (old new : List (StateKernel L)) (state : NumberedState L) : Type 0 where
  pub closure : IsClosureOf marks firsts in_order table kernel.items state.items
  pub edges : HasEdges table new state
  pub grows : (more : List (StateKernel L)) × (new ≡ old ++ more)
  pub fresh : (j : ℕ) → length old ≤ j → j < length new → (s : ℕ) × Contains state.edges (s, j)
  pub seen : (j s k : ℕ) → length old ≤ j → j < k → Contains state.edges (s, k) →
      (r : ℕ) × (r < s) × Contains state.edges (r, j)
  pub distinct : AreDistinctKernels old → AreDistinctKernels new

-- an edge leads to the state with this number
pub record HasEdgeByNumber {L : Type 0} (states : List (NumberedState L)) (n s m : ℕ) : Type 0 where
  pub state : NumberedState L
  pub at : slice_get states n ≡ Some state
  pub edge : Contains state.edges (s, m)

-- The states of the first kernels: each has its kernel's closure and its edges; each kernel behind the start's is led to from a
-- state with a smaller number; of two kernels the first was led to before; no two kernels are equal.
pub record AreStatesOf {L : Type 0} (marks : L → List ℕ) (firsts : Bool) (in_order : L → Type 0) (table : Numbered)
    (start : StateKernel L) (kernels : List (StateKernel L)) (states : List (NumberedState L)) : Type 0 where
  pub start_is : slice_get kernels 0 ≡ Some start
  pub are_kernels : (n : ℕ) (k : StateKernel L) → slice_get kernels n ≡ Some k → AreKernelItems marks in_order table k.items
  pub closures : (n : ℕ) (k : StateKernel L) (state : NumberedState L) → slice_get kernels n ≡ Some k →
      slice_get states n ≡ Some state → IsClosureOf marks firsts in_order table k.items state.items
  pub edges : (n : ℕ) (state : NumberedState L) → slice_get states n ≡ Some state → HasEdges table kernels state
  pub reached : (j : ℕ) → 0 < j → j < length kernels → (n s : ℕ) × (n < j) × HasEdgeByNumber states n s j
  pub seen : (j k n s : ℕ) → 0 < j → j < k → HasEdgeByNumber states n s k →
      (m r : ℕ) × ((m < n) ⊎ ((m ≡ n) × (r < s))) × HasEdgeByNumber states m r j
  pub distinct : AreDistinctKernels kernels

-- the states of all kernels
pub record AreNumberedStates {L : Type 0} (marks : L → List ℕ) (firsts : Bool) (in_order : L → Type 0) (table : Numbered)
    (start : StateKernel L) (states : List (NumberedState L)) : Type 0 where
  pub kernels : List (StateKernel L)
  pub count : length kernels ≡ length states
  pub are : AreStatesOf marks firsts in_order table start kernels states
