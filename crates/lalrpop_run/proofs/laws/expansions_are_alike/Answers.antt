use Rattle.lalrpop_run.proofs.CountLemmas.{counts_are_one}
use Rattle.lalrpop_run.proofs.ExpansionAlikeLemmas.{certificates_are_said_of_all, counts_are_said_of_all, lr1_is_said_of_all, runs_are_said_of_all}
use Rattle.lalrpop_run.proofs.laws.expansions_are_alike.Goals as goal

pub returns-clause-lr1 : goal.returns-clause-lr1
returns-clause-lr1 c = lr1_is_said_of_all

pub returns-clause-counts : goal.returns-clause-counts
returns-clause-counts c = counts_are_said_of_all

pub returns-clause-runs : goal.returns-clause-runs
returns-clause-runs c = runs_are_said_of_all

pub returns-clause-certificates : goal.returns-clause-certificates
returns-clause-certificates c = certificates_are_said_of_all

pub returns-clause-one_count : goal.returns-clause-one_count
returns-clause-one_count c = counts_are_one
