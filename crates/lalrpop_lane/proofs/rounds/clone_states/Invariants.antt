use Rattle.std.proofs.Common.{◌≡◌, take}
use Rattle.lalrpop_lane.proofs.rounds.clone_states.Given as goal

abbrev pub invariant-loop-state : goal.invariant-loop-state
invariant-loop-state l = l.copy.items ≡ take l.state-index l.states
