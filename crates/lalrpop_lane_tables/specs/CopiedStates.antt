-- What each part of a merge does to states: edges that are noted, a copy that comes, and edges that lead to one.
use Rattle.std.specs.Prelude.{ℕ, ◌-◌, ◌≡◌, ◌⊎◌, List, [], ◌∷◌, ◌++◌, length, Option, Some, None, slice_get, slice_set}
use Rattle.std.specs.BTreeMap.{insert_entry, is_at}
use Rattle.std.specs.Map.{lookup}
use Rattle.lalrpop_lr1_core.specs.Edges.{state_index}
use Rattle.lalrpop_lr1_core.specs.declared.state.State.{State}
use Rattle.lalrpop_lr1_core.specs.declared.state_index.StateIndex.{StateIndex}
use Rattle.lalrpop_lane_tables.specs.MergedStates.{KeepsSpread, redirected_state}
use Rattle.lalrpop_lane_tables.specs.ReachedStates.{index_cmp}
use Rattle.lalrpop_lane_tables.specs.TableViews.{IsStateKey}
use Rattle.lalrpop_lane_tables.specs.declared.merged_states.Copying.{Copying}
use Rattle.lalrpop_lane_tables.specs.declared.merged_states.FirstEdges.{FirstEdges}

module _ {L : Type 0} where
  -- the state with these edges in place of its own, if there are such
  abbrev pub has_edges : FirstEdges → State L → State L
  has_edges first state = record state { shifts = first.shifts; gotos = first.gotos }

  abbrev pub with_first_edges : Option FirstEdges → State L → State L
  with_first_edges None state = state
  with_first_edges (Some first) state = has_edges first state

  -- the edges that a state has
  pub record AreEdgesOfState (state : State L) (first : FirstEdges) : Type 0 where
    pub shifts : first.shifts ≡ state.shifts
    pub gotos : first.gotos ≡ state.gotos

  -- the edges that the state has come to be noted, if none were
  pub record AddsFirst (states : List (State L)) (n : StateIndex) (old new : List (StateIndex × FirstEdges)) : Type 0 where
    pub state : State L
    pub at : slice_get states n.0 ≡ Some state
    pub first : FirstEdges
    pub are : AreEdgesOfState state first
    pub added : new ≡ insert_entry index_cmp old n first

  abbrev pub AddsMissingFirst : List (State L) → StateIndex → List (StateIndex × FirstEdges) → List (StateIndex × FirstEdges) → Type 0
  AddsMissingFirst states n old new =
      (IsStateKey old n × (new ≡ old)) ⊎ ((IsStateKey old n → ⊥) × AddsFirst states n old new)

  -- a copy of the state, numbered as the next one, with the edges that were noted of it, or else those that it has
  pub record IsCopyOf (firsts : List (StateIndex × FirstEdges)) (states : List (State L)) (n : StateIndex) (copy : State L) : Type 0 where
    pub state : State L
    pub at : slice_get states n.0 ≡ Some state
    pub is : copy ≡ with_first_edges (lookup (is_at (index_cmp n)) firsts) (record state { index = state_index (length states) })

  -- a copy of the state comes behind the states, and is noted
  pub record AddsCopy (n : StateIndex) (old : Copying) (states : List (State L)) (new : Copying) (new_states : List (State L)) : Type 0
    where
      pub copy : State L
      pub of : IsCopyOf old.firsts states n copy
      pub pushed : new_states ≡ states ++ copy ∷ []
      pub copies : new.copies.items ≡ old.copies.items ++ (state_index (length states), n) ∷ []
      pub firsts : new.firsts ≡ old.firsts
      pub left : new.left ≡ old.left - 1

  -- the edges that the state has are noted, if none were, and those to an original then lead to its copy
  pub record LeadsToCopy (n : StateIndex) (place : ℕ) (old : Copying) (states : List (State L)) (new : Copying) (new_states : List (State L)) :
      Type 0 where
    pub entry : StateIndex × StateIndex
    pub noted : slice_get old.copies.items place ≡ Some entry
    pub state : State L
    pub at : slice_get states n.0 ≡ Some state
    pub led : new_states ≡ slice_set states n.0 (redirected_state entry.1 entry.0 state)
    pub copies : new.copies.items ≡ old.copies.items
    pub firsts : AddsMissingFirst states n old.firsts new.firsts
    pub left : new.left ≡ old.left

  -- states stay spread while copies come and edges lead to them
  abbrev pub CopyingKeeps : Copying → List (State L) → Copying → List (State L) → Type 0
  CopyingKeeps old states new new_states =
      KeepsSpread old.copies.items old.firsts states old.left new.copies.items new.firsts new_states new.left
