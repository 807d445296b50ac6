use Rattle.std.proofs.Common.{◌≡◌, take}
use Rattle.lalrpop_lr1_build.proofs.builder.kernel.clone_items.Given as goal

abbrev pub invariant-loop-item : goal.invariant-loop-item
invariant-loop-item g l = l.copy ≡ take l.item-index l.items
