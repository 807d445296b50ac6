use Rattle.lalrpop_norm_theory.proofs.KeyRuleLemmas.{expanded, expanded_inlined}
use Rattle.lalrpop_norm_theory.proofs.KeyTableLemmas.{table_expansion, chain_reached}
use Rattle.lalrpop_norm_theory.proofs.expansion.macros_keep_expansion.Goals as goal

pub returns-clause-kept : goal.returns-clause-kept
returns-clause-kept c = λ g h f keys w. expanded g h f keys w

pub returns-clause-inlined : goal.returns-clause-inlined
returns-clause-inlined c = λ g h f keys w x i. expanded_inlined g h f keys w x i

pub returns-clause-table : goal.returns-clause-table
returns-clause-table c = λ g h f depth calls keys flats a t m. table_expansion g h f depth calls keys flats a t m

pub returns-clause-reached : goal.returns-clause-reached
returns-clause-reached c = λ g k x h. chain_reached g k x h
