use Rattle.std.proofs.Common.{◌≡◌, ◌++◌}
use Rattle.std.specs.Prelude.{flat_map}
use Rattle.lalrpop_lr1_core.specs.Conflicts.{shift_conflicts}
use Rattle.lalrpop_lr1_core.proofs.token_lookahead.add_shifts.Given as goal

abbrev pub invariant-loop-terminal : goal.invariant-loop-terminal
invariant-loop-terminal l =
    l.conflicts.items ++ flat_map (shift_conflicts l.terminals l.state.index l.state.reductions) l.terminal-iterator
    ≡ l.initial.conflicts.items ++ flat_map (shift_conflicts l.terminals l.state.index l.state.reductions) l.state.shifts
