use Rattle.std.proofs.Common.{ap, arith}
use Rattle.lalrpop_lr1_least_trees.specs.Searches.{entry_count}
use Rattle.lalrpop_lr1_least_trees.proofs.least_counts.counts.is_more.Goals as goal

pub returns-in-Some-clause-no_more : goal.returns-in-Some-clause-no_more
returns-in-Some-clause-no_more c = λ h. record { count = c.in-Some.tree.count; is = ap entry_count c.in-Some.is; within = grind arith }
