use Rattle.std.proofs.Common.{refl, sym}
use Rattle.lalrpop_lr1_interpret.proofs.NumberLemmas.{terminal_at, terminal_missing}
use Rattle.lalrpop_lr1_interpret.proofs.parse.action_table.ActionTable.number_of.Goals as goal

pub returns-in-Some : goal.returns-in-Some
returns-in-Some c =
    let t = c.args.terminal.now in
    (t, refl, terminal_at c.args.self.now.terminals.keys t c.in-Some.number (sym c.in-Some.ensures.index))

pub returns-in-None : goal.returns-in-None
returns-in-None c =
    let t = c.args.terminal.now in
    (t, refl, λ k at. terminal_missing c.args.self.now.terminals.keys t k (sym c.in-None.ensures.found) at)
