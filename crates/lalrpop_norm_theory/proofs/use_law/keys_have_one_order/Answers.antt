use Rattle.lalrpop_norm_theory.proofs.UsedKeyLemmas.{key_uses_one, keys_all, keys_one_order}
use Rattle.lalrpop_norm_theory.proofs.use_law.keys_have_one_order.Goals as goal

pub returns-clause-uses : goal.returns-clause-uses
returns-clause-uses c = λ g y us vs u v. key_uses_one g y us vs u v

pub returns-clause-order : goal.returns-clause-order
returns-clause-order c = λ g others more v w. keys_one_order g others more v w

pub returns-clause-all : goal.returns-clause-all
returns-clause-all c = λ g others w x i. keys_all g others w x i
