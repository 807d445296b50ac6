use Rattle.lalrpop_lane_tables.proofs.lane_tracer.LaneTracer.start_trace.Goals as goal

pub returns-in-Ok-clause-traced : goal.returns-in-Ok-clause-traced
returns-in-Ok-clause-traced g c = rw (← c.self.view_is) c.in-Ok.ensures
