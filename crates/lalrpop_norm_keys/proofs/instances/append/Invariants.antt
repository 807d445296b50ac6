use Rattle.std.proofs.Common.{◌≡◌, ◌++◌}
use Rattle.std.specs.Vec.Iter.{into_iter_items}
use Rattle.lalrpop_norm_keys.proofs.instances.append.Given as goal

abbrev pub invariant-loop-symbol : goal.invariant-loop-symbol
invariant-loop-symbol l = l.symbols ++ into_iter_items l.symbol-iterator ≡ l.initial.symbols ++ l.fn.more
