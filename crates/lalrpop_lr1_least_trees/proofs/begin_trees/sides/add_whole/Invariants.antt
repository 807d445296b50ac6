use Rattle.std.proofs.Common.{◌≡◌, ◌++◌, drop, map}
use Rattle.lalrpop_lr1_least_trees.specs.DerivedRules.{whole_symbol}
use Rattle.lalrpop_lr1_least_trees.proofs.begin_trees.sides.add_whole.Given as goal

abbrev pub invariant-loop-symbol : goal.invariant-loop-symbol
invariant-loop-symbol l =
    l.side.items ++ map (whole_symbol l.names) (drop l.symbol-index l.symbols)
    ≡ l.initial.side.items ++ map (whole_symbol l.names) l.symbols
