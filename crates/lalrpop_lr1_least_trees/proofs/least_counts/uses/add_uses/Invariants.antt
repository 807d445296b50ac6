use Rattle.std.proofs.Common.{take}
use Rattle.lalrpop_lr1_least_trees.specs.Searches.{AddsUses, number_lists}
use Rattle.lalrpop_lr1_least_trees.proofs.least_counts.uses.add_uses.Given as goal

abbrev pub invariant-loop-symbol : goal.invariant-loop-symbol
invariant-loop-symbol l = AddsUses l.rule (take l.symbol-index l.right) (number_lists l.initial.uses.items) (number_lists l.uses.items)
