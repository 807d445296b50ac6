use Rattle.std.proofs.Common.{◌∙◌, [], arith, false, List, ℕ}
use Rattle.lalrpop_lr1_theory.specs.States.{LookaheadSet}
use Rattle.lalrpop_lane.proofs.conflict_tables.trace_actions.Goals as goal

abbrev no_look : List ℕ → LookaheadSet
no_look set = record { nexts = []; error = false }

pub start_trace-requires : goal.start_trace-requires
start_trace-requires c unrefused =
    let count = c.loop-column.invariant in
    omega (arith, count, c.loop-column-test.true)

pub loop-column-preserved : goal.loop-column-preserved
loop-column-preserved c = (c.in_ok-start_trace.ensures.traced no_look).conflicts ∙ c.loop-column.invariant
