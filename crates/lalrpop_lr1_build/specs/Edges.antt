-- The edges of a state and the kernels to which they lead, for the construction of states.
use Rattle.std.specs.Prelude.{◌≡◌, ◌⊎◌, ◌<◌, ◌≤◌, ℕ, List, [], ◌∷◌, ◌++◌, length, Some, Contains}
use Rattle.std.specs.Prelude.{slice_get}
use Rattle.lalrpop_sets.specs.AscendingLists.{Ascends}
use Rattle.lalrpop_lr1_build.specs.Kernels.{places_of}
use Rattle.lalrpop_lr1_build.specs.declared.states.kernel.StateKernel.{StateKernel}

-- no kernel stands at two places
abbrev pub AreDistinctKernels : {L : Type 0} → List (StateKernel L) → Type 0
AreDistinctKernels {L} kernels = (n m : ℕ) (k : StateKernel L) → slice_get kernels n ≡ Some k → slice_get kernels m ≡ Some k →
    n ≡ m

-- the kernel is new, and stands behind all others
pub record AddsKernel {L : Type 0} (kernel : StateKernel L) (target : ℕ) (old new : List (StateKernel L)) : Type 0 where
  pub more : new ≡ old ++ kernel ∷ []
  pub last : target ≡ length old
  pub unseen : (j : ℕ) → slice_get old j ≡ Some kernel → ⊥

-- the group has no items, and there is no edge
pub record NoEdge {L : Type 0} (group : StateKernel L) (old : List (StateKernel L)) (old_edges : List (ℕ × ℕ))
    (new : List (StateKernel L)) (new_edges : List (ℕ × ℕ)) : Type 0 where
  pub none : group.items ≡ []
  pub kernels : new ≡ old
  pub edges : new_edges ≡ old_edges

-- the group has items, and is the kernel to which the edge leads
pub record OneEdge {L : Type 0} (symbol : ℕ) (group : StateKernel L) (old : List (StateKernel L)) (old_edges : List (ℕ × ℕ))
    (new : List (StateKernel L)) (new_edges : List (ℕ × ℕ)) : Type 0 where
  pub target : ℕ
  pub some : group.items ≡ [] → ⊥
  pub at : slice_get new target ≡ Some group
  pub edges : new_edges ≡ old_edges ++ (symbol, target) ∷ []
  pub kernels : (new ≡ old) ⊎ AddsKernel group target old new

abbrev pub AddsEdge : {L : Type 0} → ℕ → StateKernel L → List (StateKernel L) → List (ℕ × ℕ) → List (StateKernel L) →
    List (ℕ × ℕ) → Type 0
AddsEdge symbol group old old_edges new new_edges =
    NoEdge group old old_edges new new_edges ⊎ OneEdge symbol group old old_edges new new_edges

-- The edges lead from the numbers of the groups with items to these groups as kernels; the kernels that are new are led to, and
-- are in the order of the edges that first lead to them.
pub record EdgesLead {L : Type 0} (old groups new : List (StateKernel L)) (edges : List (ℕ × ℕ)) : Type 0 where
  pub grows : (more : List (StateKernel L)) × (new ≡ old ++ more)
  pub ascending : Ascends (places_of edges)
  pub leads : (s m : ℕ) → Contains edges (s, m) → (group : StateKernel L) × (slice_get groups s ≡ Some group)
      × (group.items ≡ [] → ⊥) × (slice_get new m ≡ Some group)
  pub all : (s : ℕ) (group : StateKernel L) → slice_get groups s ≡ Some group → (group.items ≡ [] → ⊥) →
      (m : ℕ) × Contains edges (s, m)
  pub fresh : (j : ℕ) → length old ≤ j → j < length new → (s : ℕ) × Contains edges (s, j)
  pub seen : (j s k : ℕ) → length old ≤ j → j < k → Contains edges (s, k) → (r : ℕ) × (r < s) × Contains edges (r, j)
  pub distinct : AreDistinctKernels old → AreDistinctKernels new
