use Rattle.std.proofs.Common.{◌≡◌, length, map}
use Rattle.lalrpop_lr1_check_lookaheads.specs.ListedItems.{AreKernels, item_key}
use Rattle.lalrpop_lr1_check_lookaheads.proofs.parts.listed.kernels_of.Given as goal

abbrev pub invariant-loop-state : goal.invariant-loop-state
invariant-loop-state l = record {
  count : length l.kernels.items ≡ l.state;
  kernels : AreKernels (map (λ k. map item_key k.keys) l.kernels.items) l.states;
}
