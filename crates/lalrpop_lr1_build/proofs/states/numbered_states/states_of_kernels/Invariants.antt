use Rattle.std.proofs.Common.{◌≡◌, ◌-◌, Some, length, slice_get}
use Rattle.lalrpop_lr1_build.specs.Turns.{AreStatesOf}
use Rattle.lalrpop_lr1_build.specs.declared.states.kernel.StateKernel.{StateKernel}
use Rattle.lalrpop_lr1_build.proofs.states.numbered_states.states_of_kernels.Given as goal

abbrev pub invariant-loop-kernel : goal.invariant-loop-kernel
invariant-loop-kernel g l =
    (start : StateKernel g.row.L.Denot)
    × (slice_get l.fn.kernels.kernels 0 ≡ Some start)
    × AreStatesOf g.L.ClosureLookahead.marks g.L.ClosureLookahead.firsts g.L.KernelLookahead.in_order l.closures.numbered start
    l.kernels.kernels l.states.items
    × (l.kernels.given ≡ length l.states.items)

abbrev pub decreases-loop-kernel : goal.decreases-loop-kernel
decreases-loop-kernel g l = 9223372036854775808 - length l.states.items
