use Rattle.lalrpop_norm_chain.proofs.NormalizedLemmas.{normalized}
use Rattle.lalrpop_norm_chain.proofs.chains_normalize.Goals as goal

pub returns : goal.returns
returns c = λ finds features w v chain. normalized finds features w v chain
