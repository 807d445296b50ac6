use Rattle.std.proofs.Common.{◌≡◌, length}
use Rattle.lalrpop_lane.proofs.conflict_tables.trace_actions.Given as goal

abbrev pub invariant-loop-column : goal.invariant-loop-column
invariant-loop-column l = l.tracer.table.conflicts ≡ length l.actions
