use Rattle.std.proofs.Common.{◌≡◌, map}
use Rattle.lalrpop_lr1_check.specs.EdgeTargets.{shift_target}
use Rattle.lalrpop_lr1_check.specs.MarkGains.{marks_with}
use Rattle.lalrpop_lr1_check.proofs.closure.targets.mark_shifts.Given as goal

abbrev pub invariant-loop-target : goal.invariant-loop-target
invariant-loop-target l =
    marks_with l.marks.items (map shift_target l.target-iterator) ≡ marks_with l.fn.marks.items (map shift_target l.shifts)
