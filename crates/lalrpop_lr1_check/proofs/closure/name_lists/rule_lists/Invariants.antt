use Rattle.std.proofs.Common.{◌≡◌, length}
use Rattle.lalrpop_lr1_least_trees.specs.Searches.{number_lists}
use Rattle.lalrpop_lr1_first.specs.FirstNumbers.{name_count}
use Rattle.lalrpop_lr1_check.proofs.RuleListLemmas.{ListsRules}
use Rattle.lalrpop_lr1_check.proofs.closure.name_lists.rule_lists.Given as goal

abbrev pub invariant-loop-number : goal.invariant-loop-number
invariant-loop-number l = (length (number_lists l.lists.items) ≡ name_count l.table)
    × ListsRules l.table.rules.items l.number (number_lists l.lists.items)
