use Rattle.std.proofs.Common.{◌≡◌}
use Rattle.lalrpop_lr1_check_lookaheads.specs.ApartSets.{are_free}
use Rattle.lalrpop_lr1_check_lookaheads.proofs.parts.conflicts.lacks_shifts.Given as goal

abbrev pub invariant-loop-terminal : goal.invariant-loop-terminal
invariant-loop-terminal l = are_free l.terminals l.set l.terminal-iterator ≡ are_free l.terminals l.set l.shifts
