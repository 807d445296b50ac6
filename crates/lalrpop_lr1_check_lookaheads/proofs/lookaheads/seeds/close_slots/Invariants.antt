use Rattle.std.proofs.Common.{◌-◌, ◌^◌}
use Rattle.lalrpop_lr1_first.specs.NumberedGrammars.{table_productions}
use Rattle.lalrpop_lr1_check_lookaheads.specs.Brought.{AreClosingMarks}
use Rattle.lalrpop_lr1_check_lookaheads.proofs.lookaheads.seeds.close_slots.Given as goal

abbrev pub invariant-loop-slot : goal.invariant-loop-slot
invariant-loop-slot l = AreClosingMarks l.grammar (table_productions l.named.table.now) l.fn.slots l.slots l.number

abbrev pub decreases-loop-slot : goal.decreases-loop-slot
decreases-loop-slot l = 2 ^ 64 - l.number
