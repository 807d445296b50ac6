use Rattle.std.proofs.Common.{◌≡◌, ◌++◌, drop, map}
use Rattle.lalrpop_lr1_least_trees.specs.NumberedTrees.{rule_views}
use Rattle.lalrpop_lr1_least_trees.specs.GrammarTrees.{number_rule}
use Rattle.lalrpop_lr1_least_trees.proofs.rules.rules_with.Given as goal

abbrev pub invariant-loop-rule : goal.invariant-loop-rule
invariant-loop-rule l =
    rule_views l.own.items ++ map (number_rule l.places) (drop l.rule-index l.rules) ≡ map (number_rule l.places) l.rules
