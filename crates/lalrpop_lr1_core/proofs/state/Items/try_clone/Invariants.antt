use Rattle.std.proofs.Common.{◌≡◌, take}
use Rattle.lalrpop_lr1_core.proofs.state.Items.try_clone.Given as goal

abbrev pub invariant-loop-item : goal.invariant-loop-item
invariant-loop-item g l = l.copy ≡ take l.item-index l.self.vec
