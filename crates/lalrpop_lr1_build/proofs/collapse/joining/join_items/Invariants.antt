use Rattle.std.proofs.Common.{take}
use Rattle.lalrpop_lr1_build.specs.JoinedItems.{AreJoinedItems}
use Rattle.lalrpop_lr1_build.proofs.collapse.joining.join_items.Given as goal

abbrev pub invariant-loop-place : goal.invariant-loop-place
invariant-loop-place l = AreJoinedItems (take l.place l.ones) (take l.place l.others) l.joined
