-- Edges by the numbers of the states to which they lead: for putting states together.
use Rattle.std.specs.Prelude.{◌<◌, ℕ, All, List, slice_index_or}
use Rattle.lalrpop_lr1_core.specs.declared.state.State.{State}
use Rattle.lalrpop_lr1_core.specs.declared.state_index.StateIndex.{StateIndex}

-- the edge, to the state with the number of its target
abbrev pub renumber : {K : Type 0} → List ℕ → K × StateIndex → K × StateIndex
renumber numbers edge = (edge.0, record { 0 = slice_index_or numbers edge.1.0 0 })

-- the edges lead to states within this count
abbrev pub HaveTargetsWithin : {L : Type 0} → ℕ → List (State L) → Type 0
HaveTargetsWithin count states =
    All (λ state. All (λ e. e.1.0 < count) state.shifts × All (λ e. e.1.0 < count) state.gotos) states
