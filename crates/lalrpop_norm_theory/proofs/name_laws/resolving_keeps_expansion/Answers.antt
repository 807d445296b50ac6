use Rattle.lalrpop_norm_theory.proofs.ResolvingLemmas.{resolving_expansion, resolving_inlined, resolving_types}
use Rattle.lalrpop_norm_theory.proofs.ResolvingLemmas.{resolving_chains, resolved_names}
use Rattle.lalrpop_norm_theory.proofs.name_laws.resolving_keeps_expansion.Goals as goal

pub returns-clause-kept : goal.returns-clause-kept
returns-clause-kept c = λ finds g. resolving_expansion finds g

pub returns-clause-inlined : goal.returns-clause-inlined
returns-clause-inlined c = λ finds g x i. resolving_inlined finds g x i

pub returns-clause-types : goal.returns-clause-types
returns-clause-types c = λ finds g x t i. resolving_types finds g x t i

pub returns-clause-chains : goal.returns-clause-chains
returns-clause-chains c = λ finds g k x. resolving_chains finds g k x

pub returns-clause-names : goal.returns-clause-names
returns-clause-names c = λ finds g prefix name_of a. resolved_names finds g prefix name_of a
