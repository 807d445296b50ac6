use Rattle.std.proofs.Common.{take}
use Rattle.lalrpop_norm_tyinfer.specs.TerminalTypes.{AreTerminalTypes, found_terminals}
use Rattle.lalrpop_norm_tyinfer.proofs.terminals.terminal_types.Given as goal

abbrev pub invariant-loop-terminal : goal.invariant-loop-terminal
invariant-loop-terminal l = AreTerminalTypes (found_terminals (take l.terminal-index l.terminal-items)) l.table
