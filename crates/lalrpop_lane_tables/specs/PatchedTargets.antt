-- The state of a merge with the conflicts, and copies of it: their reductions get the sets of their classes.
use Rattle.std.specs.Prelude.{ℕ, ◌<◌, ◌≡◌, ◌⊎◌, List, [], ◌∷◌, ◌++◌, length, Some, Contains, slice_get}
use Rattle.std.specs.Borrow.{Bor}
use Rattle.lalrpop_grammar_repr.specs.declared.production.Production.{Production}
use Rattle.lalrpop_lr1_core.specs.declared.conflict.Action.{Action}
use Rattle.lalrpop_lr1_core.specs.declared.state.State.{State}
use Rattle.lalrpop_lr1_core.specs.declared.state_index.StateIndex.{StateIndex}
use Rattle.lalrpop_lane_tables.specs.AppliedSets.{HaveActions, HaveSetsOfActions}
use Rattle.lalrpop_lane_tables.specs.MergeClasses.{class_key_of}
use Rattle.lalrpop_lane_tables.specs.UnifiedClasses.{AreColumnsOfKey, ClassEntry}
use Rattle.lalrpop_lane_tables.specs.declared.merge_targets.Patch.{Patch}
use Rattle.lalrpop_lane_tables.specs.declared.unify_tables.StateSet.{StateSet}

-- the state with the conflicts, or a copy of it
abbrev pub IsTarget : StateIndex → List (StateIndex × StateIndex) → StateIndex → Type 0
IsTarget target copies n = (n ≡ target) ⊎ Contains copies (n, target)

-- the state is one of the states, and has a class
abbrev pub IsClassed : List (StateIndex × StateSet) → List (State (List ℕ)) → StateIndex → Type 0
IsClassed sets states n = (n.0 < length states) × ((key : StateSet) × (class_key_of sets n ≡ Some key))

-- each reduction of a target is one of the actions
abbrev pub HaveTargetActions : StateIndex → List (StateIndex × StateIndex) → List Action → List (State (List ℕ)) → Type 0
HaveTargetActions target copies actions states =
    (n : StateIndex) (state : State (List ℕ)) → IsTarget target copies n → slice_get states n.0 ≡ Some state →
    HaveActions actions state.reductions

module _ (actions : List Action) (sets : List (StateIndex × StateSet)) (entries : List ClassEntry) where
  -- the reductions of the state, each with the set that its action has in the state's class
  pub record AreOfClass (states : List (State (List ℕ))) (n : StateIndex) (reductions : List (List ℕ × Bor Production)) : Type 0 where
    pub state : State (List ℕ)
    pub at : slice_get states n.0 ≡ Some state
    pub key : StateSet
    pub classed : class_key_of sets n ≡ Some key
    pub columns : List (List ℕ)
    pub are : AreColumnsOfKey entries key.index columns
    pub have : HaveSetsOfActions actions columns state.reductions reductions

  -- the state's reductions are noted, if it is one of the states and has a class
  pub record AddsPatchOf (states : List (State (List ℕ))) (n : StateIndex) (old new : List Patch) : Type 0 where
    pub patch : Patch
    pub of : patch.state ≡ n
    pub are : AreOfClass states n patch.reductions
    pub added : new ≡ old ++ patch ∷ []

  abbrev pub AddsPatch : List (State (List ℕ)) → StateIndex → List Patch → List Patch → Type 0
  AddsPatch states n old new = ((IsClassed sets states n → ⊥) × (new ≡ old)) ⊎ AddsPatchOf states n old new

  -- the reductions of just those that are said to be targets are noted
  pub record ArePatches (states : List (State (List ℕ))) (Target : StateIndex → Type 0) (patches : List Patch) : Type 0 where
    pub sound : (p : Patch) → Contains patches p → Target p.state × AreOfClass states p.state p.reductions
    pub complete : (n : StateIndex) → Target n → IsClassed sets states n → (p : Patch) × Contains patches p × (p.state ≡ n)

  -- a target has the reductions of its class, and all else as before
  pub record IsPatched (old new : List (State (List ℕ))) (n : StateIndex) : Type 0 where
    pub reductions : List (List ℕ × Bor Production)
    pub are : AreOfClass old n reductions
    pub now : slice_get new n.0 ≡ Some (record are.state { reductions = reductions })

  -- each target with a class does, and all other states are as before
  pub record PatchesTargets (target : StateIndex) (copies : List (StateIndex × StateIndex)) (old new : List (State (List ℕ))) : Type 0 where
    pub count : length new ≡ length old
    pub targets : (n : StateIndex) → IsTarget target copies n → IsClassed sets old n → IsPatched old new n
    pub others : (n : StateIndex) → (IsTarget target copies n → IsClassed sets old n → ⊥) → slice_get new n.0 ≡ slice_get old n.0

-- reductions that were noted, put in place: those that are left are still to be
pub record ArePut (all left : List Patch) (old now : List (State (List ℕ))) : Type 0 where
  pub count : length now ≡ length old
  pub of_all : (p : Patch) → Contains left p → Contains all p
  pub each : (n : ℕ) (state : State (List ℕ)) → slice_get old n ≡ Some state →
      ((slice_get now n ≡ Some state) × ((p : Patch) → Contains all p → p.state.0 ≡ n → Contains left p))
      ⊎ ((p : Patch) × Contains all p × (p.state.0 ≡ n) × (slice_get now n ≡ Some (record state { reductions = p.reductions })))
