use Rattle.std.proofs.Common.{◌≡◌, ◌++◌}
use Rattle.std.specs.Prelude.{flat_map}
use Rattle.lalrpop_lr1_core.specs.Conflicts.{shifts_with_any}
use Rattle.lalrpop_lr1_core.proofs.nil_lookahead.add_all_shifts.Given as goal

abbrev pub invariant-loop-terminal : goal.invariant-loop-terminal
invariant-loop-terminal l =
    l.conflicts.items ++ flat_map (shifts_with_any l.state l.reductions) l.terminal-iterator
    ≡ l.initial.conflicts.items ++ flat_map (shifts_with_any l.state l.reductions) l.shifts
