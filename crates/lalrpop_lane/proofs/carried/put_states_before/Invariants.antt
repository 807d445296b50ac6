use Rattle.std.proofs.Common.{◌≡◌, List, Some, drop, length, map, slice_get, ℕ}
use Rattle.std.specs.Vec.Iter.{into_iter_items}
use Rattle.lalrpop_lr1_check_lookaheads.proofs.PairLemmas.{ArePaired}
use Rattle.lalrpop_lane.specs.LaneStates.{IsBeforeSets}
use Rattle.lalrpop_lane.proofs.carried.put_states_before.Given as goal

-- so many are made, and the others are still to come
abbrev pub invariant-loop-state : goal.invariant-loop-state
invariant-loop-state l = record {
  made : ArePaired (λ n state other. (own : List (List ℕ)) → slice_get (map (λ sets. sets.items) l.sets) n ≡ Some own
      → IsBeforeSets own state other) l.fn.states.items l.new.items (length l.new.items);
  left : into_iter_items l.rest ≡ drop (length l.new.items) l.fn.states.items;
}

abbrev pub decreases-loop-state : goal.decreases-loop-state
decreases-loop-state l = length (into_iter_items l.rest)
