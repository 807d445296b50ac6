use Rattle.std.proofs.Common.{subst, sym, take}
use Rattle.lalrpop_norm_tyinfer.specs.TerminalTypes.{AreTerminalTypes, found_terminals}
use Rattle.lalrpop_norm_tyinfer.proofs.TerminalLemmas.{found_more, one_more_typed}
use Rattle.lalrpop_norm_tyinfer.proofs.terminals.terminal_types.Goals as goal

pub loop-terminal-preserved : goal.loop-terminal-preserved
loop-terminal-preserved c =
    let xs = c.as_slice-terminal-items.result.now in
    let i = c.loop-terminal.terminal-index in
    let x = c.terminal-item.result in
    subst (λ ts. AreTerminalTypes ts c.add_type.new.table) (sym (found_more xs i x c.loop-terminal-test.true c.terminal-item.is))
    (one_more_typed (found_terminals (take i xs)) c.loop-terminal.table c.add_type.new.table x.now c.loop-terminal.invariant
    c.in_ok-add_type.ensures)
