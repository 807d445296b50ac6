use Rattle.lalrpop_lane_tables.proofs.RowLemmas.{some_found}
use Rattle.lalrpop_lane_tables.proofs.merged_states.has_first.Goals as goal

pub returns : goal.returns
returns c = rw c.is_some.ensures (some_found c.args.firsts.now c.args.state c.get.result c.get.ensures)
