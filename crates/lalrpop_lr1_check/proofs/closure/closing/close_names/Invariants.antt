use Rattle.std.proofs.Common.{◌-◌, ◌^◌}
use Rattle.std.specs.Prelude.{flat_map}
use Rattle.lalrpop_lr1_least_trees.specs.Searches.{number_lists}
use Rattle.lalrpop_lr1_check.specs.BeginClauses.{begin_of_rule}
use Rattle.lalrpop_lr1_check.specs.BeginLists.{AreClosingNames}
use Rattle.lalrpop_lr1_check.proofs.closure.closing.close_names.Given as goal

abbrev pub invariant-loop-done : goal.invariant-loop-done
invariant-loop-done l =
    AreClosingNames (flat_map (begin_of_rule l.table) l.table.rules.items) (number_lists l.begins) l.fn.names.marks.items
    l.names.marks.items l.names.numbers.items l.done

abbrev pub decreases-loop-done : goal.decreases-loop-done
decreases-loop-done l = 2 ^ 64 - l.done
