use Rattle.std.proofs.Common.{◌≡◌, ◌++◌, List, length}
use Rattle.std.specs.Vec.Iter.{into_iter_items, into_iter_len}
use Rattle.lalrpop_lr1_build.specs.Edges.{EdgesLead}
use Rattle.lalrpop_lr1_build.specs.declared.states.kernel.StateKernel.{StateKernel}
use Rattle.lalrpop_lr1_build.proofs.states.edges.add_edges.Given as goal

abbrev pub invariant-loop-group : goal.invariant-loop-group
invariant-loop-group g l =
    (done : List (StateKernel g.row.L.Denot))
    × (l.fn.groups.items ≡ done ++ into_iter_items l.group-iterator)
    × (l.symbol ≡ length done)
    × EdgesLead l.fn.kernels.kernels done l.kernels.kernels l.edges
    × (l.kernels.given ≡ l.fn.kernels.given)
    × (into_iter_len l.group-iterator ≡ length (into_iter_items l.group-iterator))
