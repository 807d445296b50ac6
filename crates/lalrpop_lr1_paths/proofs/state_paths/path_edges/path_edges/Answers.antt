use Rattle.std.proofs.Common.{arith, length}
use Rattle.lalrpop_lr1_paths.specs.NumberEdges.{number_edges}
use Rattle.lalrpop_lr1_paths.proofs.EdgeLemmas.{numbered_more}
use Rattle.lalrpop_lr1_paths.proofs.state_paths.path_edges.path_edges.Goals as goal

pub loop-source-preserved : goal.loop-source-preserved
loop-source-preserved g c =
    numbered_more (number_edges c.args.trees.now (length c.args.states.now)) c.args.states.now c.loop-source.source
    c.index-states-source.result c.loop-source.edges.items c.add_edges.new.edges.items (omega arith) c.index-states-source.is
    c.loop-source.invariant c.in_ok-add_edges.ensures
