use Rattle.std.proofs.Common.{map}
use Rattle.lalrpop_lr1_check_lookaheads.specs.ListedItems.{item_key}
use Rattle.lalrpop_lr1_check_lookaheads.specs.Moves.{KernelComesBack}
use Rattle.lalrpop_lr1_check_lookaheads.specs.SeenEdges.{noted_edge}
use Rattle.lalrpop_lr1_check_lookaheads.proofs.GainLemmas.{each_fails, each_more, each_passes, first_none}
use Rattle.lalrpop_lr1_check_lookaheads.proofs.parts.moving.edges_come_back.Goals as goal

pub loop-edge-init : goal.loop-edge-init
loop-edge-init c =
    first_none (λ _ edge. KernelComesBack (map item_key c.args.listed.now.keys) (map (λ k. map item_key k.keys) c.args.kernels.now)
    (noted_edge edge)) c.args.edges.now

pub returns-then-not-edge_comes_back : goal.returns-then-not-edge_comes_back
returns-then-not-edge_comes_back c =
    each_fails (λ _ edge. KernelComesBack (map item_key c.args.listed.now.keys) (map (λ k. map item_key k.keys) c.args.kernels.now)
    (noted_edge edge)) c.args.edges.now c.loop-edge.edge-index
    c.edge-item.result c.edge_comes_back.result c.loop-edge-test.true c.edge-item.is c.edge_comes_back.ensures c.if-not-edge_comes_back.true

pub loop-edge-preserved : goal.loop-edge-preserved
loop-edge-preserved c =
    each_more (λ _ edge. KernelComesBack (map item_key c.args.listed.now.keys) (map (λ k. map item_key k.keys) c.args.kernels.now)
    (noted_edge edge)) c.args.edges.now c.loop-edge.edge-index
    c.edge-item.result c.edge_comes_back.result c.loop-edge-test.true c.edge-item.is c.edge_comes_back.ensures
    c.if-not-edge_comes_back.false c.loop-edge.invariant

pub returns : goal.returns
returns c =
    each_passes (λ _ edge. KernelComesBack (map item_key c.args.listed.now.keys) (map (λ k. map item_key k.keys) c.args.kernels.now)
    (noted_edge edge)) c.args.edges.now c.loop-edge.edge-index c.loop-edge-test.false c.loop-edge.invariant
