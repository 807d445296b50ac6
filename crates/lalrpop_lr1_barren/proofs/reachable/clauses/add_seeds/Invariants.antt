use Rattle.std.proofs.Common.{◌≡◌, ◌++◌}
use Rattle.lalrpop_lr1_least_trees.specs.NumberedTrees.{rule_views}
use Rattle.lalrpop_lr1_barren.specs.ClauseRules.{marked_rules}
use Rattle.lalrpop_lr1_barren.proofs.reachable.clauses.add_seeds.Given as goal

abbrev pub invariant-loop-number : goal.invariant-loop-number
invariant-loop-number l = rule_views l.rules.items ≡ rule_views l.initial.rules.items ++ marked_rules l.marks l.number
