use Rattle.std.proofs.Common.{◌≡◌, drop, take}
use Rattle.std.specs.Vec.Iter.{into_iter_items}
use Rattle.lalrpop_run_trees.proofs.written_trees.recorded.next_trees.Given as goal

-- so many were taken, and the others are left
abbrev pub invariant-loop : goal.invariant-loop
invariant-loop l = record {
  taken : l.taken.items ≡ take l.counter (into_iter_items l.initial.rest);
  left : into_iter_items l.rest ≡ drop l.counter (into_iter_items l.initial.rest);
}
