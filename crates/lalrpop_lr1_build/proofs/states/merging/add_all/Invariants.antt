use Rattle.std.proofs.Common.{◌≡◌, ◌++◌, take}
use Rattle.lalrpop_lr1_build.proofs.states.merging.add_all.Given as goal

abbrev pub invariant-loop-item : goal.invariant-loop-item
invariant-loop-item g l = l.items ≡ l.fn.items ++ take l.item-index l.kernel
