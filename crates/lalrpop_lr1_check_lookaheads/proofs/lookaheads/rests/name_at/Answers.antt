use Rattle.lalrpop_lr1_check_lookaheads.proofs.GainLemmas.{get_at}
use Rattle.lalrpop_lr1_check_lookaheads.proofs.WalkLemmas.{name_other, name_some}
use Rattle.lalrpop_lr1_check_lookaheads.proofs.lookaheads.rests.name_at.Goals as goal

pub returns-in-Nonterminal : goal.returns-in-Nonterminal
returns-in-Nonterminal c =
    let x = c.index-symbols-dot.result in
    name_some c.args.symbols.now c.args.dot x c.in-Nonterminal.name
    (get_at c.args.symbols.now c.args.dot x c.if-dot-symbols.true c.index-symbols-dot.is) c.in-Nonterminal.is

pub returns-in-Terminal : goal.returns-in-Terminal
returns-in-Terminal c = λ A b e.
    let x = c.index-symbols-dot.result in
    name_other c.args.symbols.now c.args.dot x c.in-Terminal.field-0 A b
    (get_at c.args.symbols.now c.args.dot x c.if-dot-symbols.true c.index-symbols-dot.is) c.in-Terminal.is e
