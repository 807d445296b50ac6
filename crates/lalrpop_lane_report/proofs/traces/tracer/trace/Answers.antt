use Rattle.lalrpop_lane_report.proofs.traces.tracer.trace.Goals as goal

pub returns : goal.returns
returns c = c.in_ok-draw_trace.ensures
