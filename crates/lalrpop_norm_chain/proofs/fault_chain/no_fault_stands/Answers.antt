use Rattle.lalrpop_norm_chain.proofs.StandingLemmas.{all_typed, none_stands}
use Rattle.lalrpop_norm_chain.proofs.fault_chain.no_fault_stands.Goals as goal

pub returns : goal.returns
returns c = λ finds deep features limit w leveled expanded checked first table right chain t types. (
  λ kind p h. none_stands finds deep features limit w leveled expanded chain first checked t table right types kind p h,
  λ p h. all_typed finds deep features limit w leveled expanded chain first checked t table types p h,
)
