use Rattle.lalrpop_norm_chain.proofs.LoweredLemmas.{lowered_from}
use Rattle.lalrpop_norm_chain.proofs.lower_law.lowering_goes_on.Goals as goal

pub returns : goal.returns
returns c = λ finds g types made l one m k. lowered_from finds g types made l one m k
