use Rattle.std.proofs.lemmas.Result.{on_ok_weaker}
use Rattle.lalrpop_lane_tables.proofs.lane_tracer.take_steps.Goals as goal

pub returns-in-Moved : goal.returns-in-Moved
returns-in-Moved g c =
    rw c.in-Moved.is (on_ok_weaker c.step_back.result (λ steps. λ look. steps look c.args.conflict.index) c.step_back.ensures)

pub returns-in-Front : goal.returns-in-Front
returns-in-Front g c = rw c.in-Front.is c.step_up.ensures
