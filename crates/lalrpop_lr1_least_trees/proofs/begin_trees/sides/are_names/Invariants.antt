use Rattle.std.proofs.Common.{ℕ, ◌<◌, get_or}
use Rattle.lalrpop_lr1_least_trees.proofs.begin_trees.sides.are_names.Given as goal

abbrev pub invariant-loop-symbol : goal.invariant-loop-symbol
invariant-loop-symbol l = (k : ℕ) → k < l.symbol-index → get_or l.symbols k 0 < l.names
