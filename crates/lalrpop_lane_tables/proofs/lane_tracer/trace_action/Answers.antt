use Rattle.lalrpop_lane_tables.proofs.lane_tracer.trace_action.Goals as goal

pub returns-in-Shift : goal.returns-in-Shift
returns-in-Shift g c = rw c.in-Shift.is c.trace_shift.ensures

pub returns-in-Reduce : goal.returns-in-Reduce
returns-in-Reduce g c = rw c.in-Reduce.is c.trace_reduction.ensures
