use Rattle.std.proofs.Common.{◌≡◌, length, take}
use Rattle.std.specs.Prelude.{flat_map}
use Rattle.lalrpop_lr1_least_trees.specs.Searches.{number_lists}
use Rattle.lalrpop_lr1_first.specs.FirstNumbers.{name_count}
use Rattle.lalrpop_lr1_check.specs.BeginClauses.{begin_of_rule}
use Rattle.lalrpop_lr1_check.specs.BeginLists.{ListsBegins}
use Rattle.lalrpop_lr1_check.proofs.closure.begins.begin_lists.Given as goal

abbrev pub invariant-loop-number : goal.invariant-loop-number
invariant-loop-number l = (length (number_lists l.begins.items) ≡ name_count l.table)
    × ListsBegins (flat_map (begin_of_rule l.table) (take l.number l.table.rules.items)) (number_lists l.begins.items)
