use Rattle.std.proofs.Common.{◌≡◌, []}
use Rattle.lalrpop_lane_tables.specs.ReachedStates.{led_to, states_with}
use Rattle.lalrpop_lane_tables.proofs.lane_tables.reached_states.Given as goal

abbrev pub invariant-loop-state : goal.invariant-loop-state
invariant-loop-state l = states_with l.reached.keys (led_to l.state-iterator) ≡ states_with [] (led_to l.successors)
