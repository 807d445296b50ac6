use Rattle.std.proofs.Common.{◌≡◌, ◌++◌, map}
use Rattle.lalrpop_lr1_interpret.specs.Rows.{entry_view, shift_entry}
use Rattle.lalrpop_lr1_interpret.proofs.parse.entries.add_shifts.Given as goal

abbrev pub invariant-loop-terminal : goal.invariant-loop-terminal
invariant-loop-terminal l =
    map entry_view l.entries.items ++ map shift_entry l.terminal-iterator
    ≡ map entry_view l.initial.entries.items ++ map shift_entry l.state.shifts
