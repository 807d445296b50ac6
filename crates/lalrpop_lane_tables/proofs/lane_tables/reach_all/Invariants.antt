use Rattle.std.proofs.Common.{◌≡◌}
use Rattle.lalrpop_lane_tables.specs.ReachedStates.{states_with}
use Rattle.lalrpop_lane_tables.proofs.lane_tables.reach_all.Given as goal

abbrev pub invariant-loop-state : goal.invariant-loop-state
invariant-loop-state l = states_with l.reached.keys l.state-iterator ≡ states_with l.initial.reached.keys l.states.keys
