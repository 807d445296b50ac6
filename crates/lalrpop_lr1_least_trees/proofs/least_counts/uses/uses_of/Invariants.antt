use Rattle.lalrpop_lr1_least_trees.specs.NumberedTrees.{rule_views}
use Rattle.lalrpop_lr1_least_trees.specs.Searches.{number_lists}
use Rattle.lalrpop_lr1_least_trees.proofs.UseLemmas.{AreFirstUses}
use Rattle.lalrpop_lr1_least_trees.proofs.least_counts.uses.uses_of.Given as goal

abbrev pub invariant-loop-rule : goal.invariant-loop-rule
invariant-loop-rule l = AreFirstUses (rule_views l.rules) l.names l.rule (number_lists l.uses.items)
