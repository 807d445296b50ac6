use Rattle.std.proofs.Common.{◌≡◌, ◌++◌, length}
use Rattle.std.specs.Vec.Iter.{into_iter_items, into_iter_len}
use Rattle.lalrpop_lr1_build.proofs.conflicts.add_conflicts.Given as goal

abbrev pub invariant-loop-conflict : goal.invariant-loop-conflict
invariant-loop-conflict g l =
    (l.conflicts.items ++ into_iter_items l.conflict-iterator ≡ l.fn.conflicts.items ++ l.fn.more.items)
    × (into_iter_len l.conflict-iterator ≡ length (into_iter_items l.conflict-iterator))
