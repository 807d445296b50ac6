use Rattle.lalrpop_norm_chain.proofs.StandingLemmas.{type_stands}
use Rattle.lalrpop_norm_chain.proofs.fault_chain.type_faults_stand.Goals as goal

pub returns : goal.returns
returns c = λ finds deep features limit w leveled expanded checked first error right chain t told.
    type_stands finds deep features limit w leveled expanded chain first checked t error right told
