use Rattle.lalrpop_lr1_least_trees.specs.NumberedTrees.{rule_views}
use Rattle.lalrpop_lr1_least_trees.specs.DerivedRules.{AreDerived}
use Rattle.lalrpop_lr1_least_trees.proofs.begin_trees.derived.derived_rules.Given as goal

abbrev pub invariant-loop-number : goal.invariant-loop-number
invariant-loop-number l = AreDerived l.names l.wanted (rule_views l.rules) l.number l.derived
