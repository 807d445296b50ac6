use Rattle.lalrpop_run_prepare.proofs.ExpandLemmas.{barren_told}
use Rattle.lalrpop_run_prepare.proofs.expanding.inline_reached.Goals as goal

pub returns-in-Some-clause-refused : goal.returns-in-Some-clause-refused
returns-in-Some-clause-refused c =
    rw c.into_atom.ensures
    (barren_told c.args.whole c.args.lowered.now c.args.start.now (record { 0 = c.in_ok-try_clone.field-0 })
    c.in_ok-expansion.expansion c.in_ok-barren.barren c.in-Some.nonterminal c.in-Some.is c.in_ok-try_clone.ensures
    c.in_ok-expansion.ensures.inlined c.in_ok-barren.ensures)
