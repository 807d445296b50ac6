use Rattle.std.proofs.Common.{◌≡◌, map, take}
use Rattle.lalrpop_lane.specs.LaneStates.{state_before}
use Rattle.lalrpop_lane.proofs.lr0.put_states_before.Given as goal

abbrev pub invariant-loop-state : goal.invariant-loop-state
invariant-loop-state l = l.new.items ≡ map (state_before l.set) (take l.state-index l.states)
