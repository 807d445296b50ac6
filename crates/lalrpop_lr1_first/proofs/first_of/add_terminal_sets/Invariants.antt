use Rattle.std.proofs.Common.{◌≡◌, ◌++◌, map, take}
use Rattle.lalrpop_lr1_first.specs.FirstNumbers.{terminal_set}
use Rattle.lalrpop_lr1_first.proofs.first_of.add_terminal_sets.Given as goal

abbrev pub invariant-loop-terminal : goal.invariant-loop-terminal
invariant-loop-terminal l =
    l.sets.items ≡ l.fn.sets.items ++ map (terminal_set l.terminals) (take l.terminal-index l.terminals.all)
