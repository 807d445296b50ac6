use Rattle.lalrpop_norm_chain.proofs.KeyPrefixLemmas.{keys_free}
use Rattle.lalrpop_norm_chain.proofs.OrderLemmas.{keys_ordered}
use Rattle.lalrpop_norm_chain.proofs.keys_leave_premises.Goals as goal

pub returns-clause-prefix : goal.returns-clause-prefix
returns-clause-prefix c = λ g h f keys prefix number w expanded free printed. keys_free g h f keys w prefix free expanded number printed

pub returns-clause-order : goal.returns-clause-order
returns-clause-order c = λ g h f keys w expanded ordered. keys_ordered g h f keys w expanded ordered
