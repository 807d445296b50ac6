use Rattle.std.proofs.Common.{arith}
use Rattle.lalrpop_lr1_interpret.proofs.ColumnLemmas.{columns_on}
use Rattle.lalrpop_lr1_interpret.proofs.parse.action_table.ActionTable.columns_of.Goals as goal

pub loop-terminal-preserved : goal.loop-terminal-preserved
loop-terminal-preserved c =
    columns_on c.args.self.now c.args.terminals.now c.loop-terminal.terminal-index c.terminal-item.result c.loop-terminal.numbers.items
    c.push.new.self.items c.column_of.result (omega arith) c.terminal-item.is c.loop-terminal.invariant c.column_of.ensures
    c.in_ok-push.ensures.items
