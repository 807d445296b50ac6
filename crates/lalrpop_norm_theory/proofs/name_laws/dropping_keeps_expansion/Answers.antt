use Rattle.lalrpop_norm_theory.proofs.DroppingLemmas.{dropping_expansion, dropping_inlined, dropping_types}
use Rattle.lalrpop_norm_theory.proofs.DroppingLemmas.{dropping_chains, dropped_names}
use Rattle.lalrpop_norm_theory.proofs.name_laws.dropping_keeps_expansion.Goals as goal

pub returns-clause-kept : goal.returns-clause-kept
returns-clause-kept c = λ finds features g w. dropping_expansion finds features g w

pub returns-clause-inlined : goal.returns-clause-inlined
returns-clause-inlined c = λ finds features g w x i. dropping_inlined finds features g w x i

pub returns-clause-types : goal.returns-clause-types
returns-clause-types c = λ finds features g w x t i. dropping_types finds features g w x t i

pub returns-clause-chains : goal.returns-clause-chains
returns-clause-chains c = λ finds features g w k x. dropping_chains finds features g w k x

pub returns-clause-names : goal.returns-clause-names
returns-clause-names c = λ finds features g prefix name_of w a. dropped_names finds features g prefix name_of w a
