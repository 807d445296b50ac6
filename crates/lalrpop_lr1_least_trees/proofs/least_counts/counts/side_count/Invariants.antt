use Rattle.std.proofs.Common.{◌≡◌, Some, take}
use Rattle.lalrpop_lr1_least_trees.specs.Searches.{count_of, node_count}
use Rattle.lalrpop_lr1_least_trees.proofs.least_counts.counts.side_count.Given as goal

abbrev pub invariant-loop-symbol : goal.invariant-loop-symbol
invariant-loop-symbol l = node_count (count_of l.leaves l.table) (take l.symbol-index l.symbols) ≡ Some l.count
