use Rattle.lalrpop_norm_chain.proofs.StandingLemmas.{arity_stands, depth_stands, condition_stands, limit_stands, right_macros}
use Rattle.lalrpop_norm_chain.proofs.fault_chain.macro_faults_stand.Goals as goal

pub returns-clause-arity : goal.returns-clause-arity
returns-clause-arity c = λ finds deep features limit w leveled error right chain told.
    arity_stands finds deep features limit w leveled chain error right told

pub returns-clause-depth : goal.returns-clause-depth
returns-clause-depth c = λ finds deep features limit w leveled y p right chain h at.
    depth_stands finds deep features limit w leveled chain y p right h at

pub returns-clause-condition : goal.returns-clause-condition
returns-clause-condition c = λ finds deep features limit w leveled error right chain told.
    condition_stands finds deep features limit w leveled chain error right told

pub returns-clause-limit : goal.returns-clause-limit
returns-clause-limit c = λ finds deep features w leveled chain told. limit_stands finds deep features 0 w leveled chain told

pub returns-clause-none : goal.returns-clause-none
returns-clause-none c = λ finds deep features limit w leveled right chain arity depth conditions.
    right_macros finds deep features limit w leveled chain right arity depth conditions
