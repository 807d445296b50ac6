use Rattle.std.proofs.Common.{◌-◌, length}
use Rattle.lalrpop_lr1_least_trees.specs.NumberedTrees.{rule_views}
use Rattle.lalrpop_lr1_least_trees.specs.Openings.{AreOpening}
use Rattle.lalrpop_lr1_least_trees.proofs.least_counts.moves.moves_of.Given as goal

abbrev pub invariant-loop-symbol : goal.invariant-loop-symbol
invariant-loop-symbol l =
    AreOpening (rule_views l.rules) (length l.table) l.leaves l.table l.symbols l.count l.pending.items l.moves.items

abbrev pub decreases-loop-symbol : goal.decreases-loop-symbol
decreases-loop-symbol l = l.count - length l.moves.items
