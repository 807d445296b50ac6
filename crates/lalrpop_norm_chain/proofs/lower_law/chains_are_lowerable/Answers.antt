use Rattle.lalrpop_norm_chain.proofs.PremiseLemmas.{lowerable}
use Rattle.lalrpop_norm_chain.proofs.lower_law.chains_are_lowerable.Goals as goal

pub returns : goal.returns
returns c = λ finds features w checked types chain. lowerable finds features w checked types chain
