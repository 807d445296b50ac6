use Rattle.std.proofs.lemmas.Result.{err_from_is_err_and}
use Rattle.lalrpop_run_prepare.specs.PrepareRefusals.{IsRefusedStart}
use Rattle.lalrpop_run_prepare.proofs.ExpandLemmas.{isnt_so, start_parsed}
use Rattle.lalrpop_run_prepare.proofs.TableLemmas.{expansion_has_its_terminals}
use Rattle.lalrpop_run_prepare.proofs.expanding.expand.Goals as goal

pub returns-in_err-expansion-clause-refused : goal.returns-in_err-expansion-clause-refused
returns-in_err-expansion-clause-refused c =
    let p = err_from_is_err_and c.from_residual.result c.from_residual.ensures.1 in
    rw (p.1, p.2) (IsRefusedStart.expansion c.in_err-expansion.ensures.refused)

pub returns-then-not-is_start_of-clause-refused : goal.returns-then-not-is_start_of-clause-refused
returns-then-not-is_start_of-clause-refused c =
    IsRefusedStart.unread c.in_ok-expansion.expansion c.in_ok-name.name c.in_ok-expansion.ensures.inlined c.in_ok-name.ensures
    (isnt_so c.is_start_of.result c.if-not-is_start_of.true c.is_start_of.ensures.1)

pub returns-clause-parsed : goal.returns-clause-parsed
returns-clause-parsed c =
    start_parsed c.args.lowered.now c.in_ok-expansion.expansion c.args.start.now c.in_ok-name.name c.requires c.known.ensures
    c.in_ok-expansion.ensures.inlined c.in_ok-expansion.ensures.none (c.is_start_of.ensures.0 c.if-not-is_start_of.false)

pub returns-clause-terminals : goal.returns-clause-terminals
returns-clause-terminals c =
    expansion_has_its_terminals c.args.lowered.now c.requires c.in_ok-expansion.expansion c.in_ok-expansion.ensures.inlined
