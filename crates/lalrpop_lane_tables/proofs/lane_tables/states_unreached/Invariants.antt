use Rattle.lalrpop_lane_tables.proofs.RowLemmas.{AreUnreached}
use Rattle.lalrpop_lane_tables.proofs.lane_tables.states_unreached.Given as goal

abbrev pub invariant-loop-state : goal.invariant-loop-state
invariant-loop-state l = AreUnreached l.lookaheads l.reached.keys l.state-iterator l.states.keys
