use Rattle.std.proofs.Common.{Some}
use Rattle.std.proofs.lemmas.Result.{IfOk-weaker}
use Rattle.lalrpop_lane_report.proofs.traces.tracer.Tracer.backtrace_reduce.Goals as goal

pub returns : goal.returns
returns c = rw (← c.self.view_is) (IfOk-weaker c.trace.result _ _ (λ graph h g firsts terminals. h (Some g) (firsts, terminals)) c.trace.ensures)
