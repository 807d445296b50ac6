use Rattle.lalrpop_lr1_first.specs.FirstNumbers.{TableSweepsTo}
use Rattle.lalrpop_lr1_first.proofs.first_of.sweep.Given as goal

abbrev pub invariant-loop-step : goal.invariant-loop-step
invariant-loop-step l = TableSweepsTo l.table l.forward l.step l.fn.sets.items l.sets.items l.changed
