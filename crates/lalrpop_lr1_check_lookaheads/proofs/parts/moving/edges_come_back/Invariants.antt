use Rattle.std.proofs.Common.{map}
use Rattle.lalrpop_lr1_check_lookaheads.specs.ListedItems.{item_key}
use Rattle.lalrpop_lr1_check_lookaheads.specs.Moves.{KernelComesBack}
use Rattle.lalrpop_lr1_check_lookaheads.specs.SeenEdges.{noted_edge}
use Rattle.lalrpop_lr1_check_lookaheads.specs.ListTests.{HoldsAtFirst}
use Rattle.lalrpop_lr1_check_lookaheads.proofs.parts.moving.edges_come_back.Given as goal

abbrev pub invariant-loop-edge : goal.invariant-loop-edge
invariant-loop-edge l =
    HoldsAtFirst (λ _ edge. KernelComesBack (map item_key l.listed.keys) (map (λ k. map item_key k.keys) l.kernels) (noted_edge edge))
    l.edges l.edge-index
