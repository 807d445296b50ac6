use Rattle.std.proofs.Common.{◌≡◌, take}
use Rattle.lalrpop_lr1_core.proofs.state.clone_reductions.Given as goal

abbrev pub invariant-loop-reduction : goal.invariant-loop-reduction
invariant-loop-reduction g l = l.copy ≡ take l.reduction-index l.reductions
