use Rattle.std.proofs.Common.{take}
use Rattle.lalrpop_lr1_interpret.specs.Columns.{AreColumnsOf}
use Rattle.lalrpop_lr1_interpret.proofs.parse.action_table.ActionTable.columns_of.Given as goal

abbrev pub invariant-loop-terminal : goal.invariant-loop-terminal
invariant-loop-terminal l = AreColumnsOf l.self (take l.terminal-index l.terminals) l.numbers.items
