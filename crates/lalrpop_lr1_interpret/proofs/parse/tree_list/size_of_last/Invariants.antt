use Rattle.lalrpop_lr1_interpret.specs.ListParts.{HasLastTrees}
use Rattle.lalrpop_lr1_interpret.specs.MoveOrders.{trees_of}
use Rattle.lalrpop_lr1_interpret.specs.TreeEntries.{tree_entry_views}
use Rattle.lalrpop_lr1_interpret.proofs.parse.tree_list.size_of_last.Given as goal

abbrev pub invariant-loop-taken : goal.invariant-loop-taken
invariant-loop-taken l = HasLastTrees (trees_of (tree_entry_views l.entries)) l.taken l.size
