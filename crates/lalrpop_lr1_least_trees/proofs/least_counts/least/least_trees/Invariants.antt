use Rattle.std.proofs.Common.{◌+◌, ◌*◌, length, suc}
use Rattle.lalrpop_lr1_least_trees.specs.NumberedTrees.{rule_views}
use Rattle.lalrpop_lr1_least_trees.specs.Searches.{IsTreeSearch, number_lists, weight}
use Rattle.lalrpop_lr1_least_trees.proofs.MeasureLemmas.{total}
use Rattle.lalrpop_lr1_least_trees.proofs.least_counts.least.least_trees.Given as goal

abbrev pub invariant-loop-number : goal.invariant-loop-number
invariant-loop-number l = IsTreeSearch (rule_views l.rules) l.names l.leaves l.table.items l.waiting

abbrev pub decreases-loop-number : goal.decreases-loop-number
decreases-loop-number l = suc (total (number_lists l.uses.items)) * weight l.table.items + length l.waiting.rules.items
