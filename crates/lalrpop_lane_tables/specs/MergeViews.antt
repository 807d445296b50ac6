-- What a merge shows, which classes it goes by, and what it keeps of states.
use Rattle.std.specs.Prelude.{ℕ, ◌<◌, ◌≡◌, List, length, Option, Contains, Result, Ok, Err}
use Rattle.lalrpop_lr1_core.specs.declared.state.State.{State}
use Rattle.lalrpop_lr1_core.specs.declared.state_index.StateIndex.{StateIndex}
use Rattle.lalrpop_lane_tables.specs.MergedStates.{KeepsSpread}
use Rattle.lalrpop_lane_tables.specs.UnifiedClasses.{ClassEntry}
use Rattle.lalrpop_lane_tables.specs.declared.merge_classes.MergeFault.{MergeFault}
use Rattle.lalrpop_lane_tables.specs.declared.merge_classes.MergeFault.TheVariants.{Pair, Copies, Memory}
use Rattle.lalrpop_lane_tables.specs.declared.merged_states.FirstEdges.{FirstEdges}
use Rattle.lalrpop_lane_tables.specs.declared.unify_tables.StateSet.{StateSet}

-- the state with the conflict, the copies made so far, each with what it is a copy of, the edges that states had first, how many copies
-- may still be made, and what the merge was refused with
pub record MergeView : Type 0 where
  pub target : StateIndex
  pub copies : List (StateIndex × StateIndex)
  pub firsts : List (StateIndex × FirstEdges)
  pub left : ℕ
  pub fault : Option MergeFault

-- each state's class is one of the table, and all classes have so many columns
pub record AreClasses (count : ℕ) (sets : List (StateIndex × StateSet)) (entries : List ClassEntry) : Type 0 where
  pub keys : (n : StateIndex) (key : StateSet) → Contains sets (n, key) → key.index < length entries
  pub columns : (e : ClassEntry) → Contains entries e → length e.1 ≡ count

-- a merge keeps states spread, over whatever they were spread
abbrev pub MergeKeeps : {L : Type 0} → MergeView → List (State L) → MergeView → List (State L) → Type 0
MergeKeeps old states new new_states =
    KeepsSpread old.copies old.firsts states old.left new.copies new.firsts new_states new.left

-- it holds, unless memory was refused
abbrev pub UnlessMemory : {A : Type 0} → Result A MergeFault → Type 0 → Type 0
UnlessMemory (Ok x) P = P
UnlessMemory (Err Memory) P = Unit {0}
UnlessMemory (Err Copies) P = P
UnlessMemory (Err (Pair state successor)) P = P
