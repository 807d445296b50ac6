use Rattle.lalrpop_norm_chain.proofs.StandingLemmas.{token_stands, right_tokens}
use Rattle.lalrpop_norm_chain.proofs.fault_chain.token_faults_stand.Goals as goal

pub returns-clause-told : goal.returns-clause-told
returns-clause-told c = λ finds deep features limit w leveled expanded first error right chain same told.
    token_stands finds deep features limit w leveled expanded chain first error right same told

pub returns-clause-none : goal.returns-clause-none
returns-clause-none c = λ finds deep features limit w leveled expanded checked first right chain same t.
    right_tokens finds deep features limit w leveled expanded chain first checked t right same
