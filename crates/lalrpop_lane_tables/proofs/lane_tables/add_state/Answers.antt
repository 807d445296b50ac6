use Rattle.lalrpop_lane_tables.specs.ReachedStates.{index_cmp}
use Rattle.lalrpop_lane_tables.proofs.KeyLemmas.{index_exact, insert_has}
use Rattle.lalrpop_lane_tables.proofs.lane_tables.add_state.Goals as goal

pub returns : goal.returns
returns c n = rw c.in_ok-insert.ensures.keys (insert_has index_cmp index_exact c.args.states.now.keys c.args.state n)
