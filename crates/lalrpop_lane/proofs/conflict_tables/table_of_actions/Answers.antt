use Rattle.std.proofs.Common.{List, ap, arith, length, ℕ}
use Rattle.lalrpop_lane_tables.specs.TracerViews.{TracerView}
use Rattle.lalrpop_lane.proofs.conflict_tables.table_of_actions.Goals as goal

pub trace_actions-requires : goal.trace_actions-requires
trace_actions-requires c =
    let count = ap (λ (t : TracerView (List ℕ)). t.table.conflicts) c.new-tracer.ensures in
    let known = c.in_ok-actions.actions.ok.0 in
    let all = ap length c.as_slice.ensures.value in
    omega (arith, count, known, all)
