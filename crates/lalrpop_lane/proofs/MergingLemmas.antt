-- Merges, one after the other, keep states spread: for states that conflict.
use Rattle.std.proofs.Common.{◌≡◌, ℕ, List, [], subst}
use Rattle.lalrpop_lr1_core.specs.declared.state.State.{State}
use Rattle.lalrpop_lr1_core.specs.declared.state_index.StateIndex.{StateIndex}
use Rattle.lalrpop_lane_tables.specs.MergedStates.{KeepsSpread}
use Rattle.lalrpop_lane_tables.specs.MergeViews.{MergeKeeps, MergeView}
use Rattle.lalrpop_lane_tables.specs.declared.merged_states.FirstEdges.{FirstEdges}
use Rattle.lalrpop_lane_tables.proofs.CopiedLemmas.{merged_anew}
use Rattle.lalrpop_lane_tables.proofs.MergeLemmas.{keeps_both, keeps_same}
use Rattle.lalrpop_lane.specs.Merges.{MergesKeep}

-- what a merge noted is let go
pub keeps_anew : (old new : List (State (List ℕ))) (left new_left : ℕ) (copies : List (StateIndex × StateIndex))
    (firsts : List (StateIndex × FirstEdges)) → KeepsSpread [] [] old left copies firsts new new_left → MergesKeep old left new new_left
keeps_anew old new left new_left copies firsts k =
    record {
      spread = λ originals origin h.
          let s = k.spread originals origin h in
          record {
            new_origin = s.new_origin;
            extends = s.extends;
            merged = merged_anew originals s.new_origin copies firsts new s.merged;
          };
      kept = k.kept;
      numbered = k.numbered;
      count = k.count;
      grown = k.grown;
    }

-- a whole merge, which begins with nothing noted
pub merge_keeps : (merge now : MergeView) (old new : List (State (List ℕ))) (left : ℕ) → merge.copies ≡ [] → merge.firsts ≡ [] →
    merge.left ≡ left → MergeKeeps merge old now new → MergesKeep old left new now.left
merge_keeps merge now old new left e f h k =
    keeps_anew old new left now.left now.copies now.firsts
    (subst (λ (l : ℕ). KeepsSpread [] [] old l now.copies now.firsts new now.left) h
    (subst (λ (fs : List (StateIndex × FirstEdges)). KeepsSpread [] fs old merge.left now.copies now.firsts new now.left) f
    (subst (λ (cs : List (StateIndex × StateIndex)). KeepsSpread cs merge.firsts old merge.left now.copies now.firsts new now.left) e k)))

pub keeps_none : (states : List (State (List ℕ))) (left : ℕ) → MergesKeep states left states left
keeps_none states left = keeps_same [] [] states left

pub keeps_two : (old mid new : List (State (List ℕ))) (left mid_left new_left : ℕ) → MergesKeep old left mid mid_left →
    MergesKeep mid mid_left new new_left → MergesKeep old left new new_left
keeps_two old mid new left mid_left new_left f g = keeps_both [] [] [] [] [] [] old mid new left mid_left new_left f g

pub walk_none : (merge : MergeView) (states : List (State (List ℕ))) → MergeKeeps merge states merge states
walk_none merge states = keeps_same merge.copies merge.firsts states merge.left

pub walk_two : (merge mid now : MergeView) (old states new : List (State (List ℕ))) → MergeKeeps merge old mid states →
    MergeKeeps mid states now new → MergeKeeps merge old now new
walk_two merge mid now old states new f g =
    keeps_both merge.copies mid.copies now.copies merge.firsts mid.firsts now.firsts old states new merge.left mid.left now.left f g
