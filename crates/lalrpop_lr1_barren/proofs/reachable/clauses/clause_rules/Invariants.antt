use Rattle.std.proofs.Common.{◌≡◌, ◌++◌, drop, map}
use Rattle.lalrpop_lr1_least_trees.specs.NumberedTrees.{rule_views}
use Rattle.lalrpop_lr1_barren.specs.ClauseRules.{rule_of_clause}
use Rattle.lalrpop_lr1_barren.proofs.reachable.clauses.clause_rules.Given as goal

abbrev pub invariant-loop-clause : goal.invariant-loop-clause
invariant-loop-clause l = rule_views l.rules.items ++ map rule_of_clause (drop l.clause-index l.clauses) ≡ map rule_of_clause l.clauses
