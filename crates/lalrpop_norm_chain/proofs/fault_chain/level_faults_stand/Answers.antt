use Rattle.lalrpop_norm_chain.proofs.StandingLemmas.{level_stands, right_levels}
use Rattle.lalrpop_norm_chain.proofs.fault_chain.level_faults_stand.Goals as goal

pub returns-clause-told : goal.returns-clause-told
returns-clause-told c = λ finds deep features limit w error right told. level_stands finds deep features limit w error right told

pub returns-clause-none : goal.returns-clause-none
returns-clause-none c = λ features w checks names levels. right_levels features w checks names levels
