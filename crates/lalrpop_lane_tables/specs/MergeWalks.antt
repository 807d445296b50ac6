-- The walk of a merge: the steps that are still to be taken, and why it ends.
use Rattle.std.specs.Prelude.{ℕ, ◌+◌, ◌-◌, ◌*◌, ◌^◌, ◌<◌, ◌≡◌, Bool, true, false, List, length, map}
use Rattle.std.specs.BTreeSet.{BTreeSet, btree_set_len}
use Rattle.lalrpop_lr1_core.specs.declared.state_index.StateIndex.{StateIndex}
use Rattle.lalrpop_lane_tables.specs.declared.merge_walk.Step.{Step}

-- the steps from a state to the successors of its original
abbrev pub step_to : StateIndex → StateIndex → StateIndex → Step
step_to state original successor = record { state = state; original = original; successor = successor }

abbrev pub steps_to : StateIndex → StateIndex → List StateIndex → List Step
steps_to state original successors = map (step_to state original) successors

-- a number that falls with each step: each visit brings fewer than 2 ^ 63 steps, and there are fewer than 2 ^ 63 visits
abbrev pub walk_left : BTreeSet StateIndex → List Step → ℕ
walk_left visited steps = (2 ^ 63 - btree_set_len visited) * 2 ^ 63 + length steps

-- a state is noted as visited, for the first time or again
abbrev pub NotesVisit : BTreeSet StateIndex → BTreeSet StateIndex → Bool → Type 0
NotesVisit old new true = (btree_set_len new ≡ btree_set_len old + 1) × (btree_set_len new < 2 ^ 63)
NotesVisit old new false = new ≡ old
