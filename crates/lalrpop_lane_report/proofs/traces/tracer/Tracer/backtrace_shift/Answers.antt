use Rattle.std.proofs.Common.{None}
use Rattle.std.proofs.lemmas.Result.{IfOk-weaker}
use Rattle.lalrpop_lane_report.proofs.traces.tracer.Tracer.backtrace_shift.Goals as goal

pub returns : goal.returns
returns c = rw (← c.self.view_is) (IfOk-weaker c.trace.result _ _ (λ graph h. h None tt) c.trace.ensures)
