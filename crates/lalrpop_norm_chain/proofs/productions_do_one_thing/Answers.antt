use Rattle.lalrpop_norm_chain.proofs.OneActionLemmas.{productions_do_one}
use Rattle.lalrpop_norm_chain.proofs.productions_do_one_thing.Goals as goal

pub returns : goal.returns
returns c = λ finds features w x o side a b p h k. productions_do_one finds features w x o side a b p h k
