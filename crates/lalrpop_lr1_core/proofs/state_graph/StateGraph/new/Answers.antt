use Rattle.std.proofs.Common.{arith, List, length, subst}
use Rattle.lalrpop_lr1_core.specs.IncomingEdges.{HasNewest, HasPrevious}
use Rattle.lalrpop_lr1_core.specs.declared.edge.Edge.{Edge}
use Rattle.lalrpop_lr1_core.proofs.EdgeLemmas.{edges-more}
use Rattle.lalrpop_lr1_core.proofs.state_graph.StateGraph.new.Goals as goal

pub loop-source-preserved : goal.loop-source-preserved
loop-source-preserved g c =
    edges-more c.args.states.now c.loop-source.source c.index-states-source.result c.loop-source.edges c.add_edges.new.edges
    (omega arith) c.index-states-source.is c.loop-source.invariant c.in_ok-add_edges.ensures

pub invariant_of-result : goal.invariant_of-result
invariant_of-result g c =
    subst (λ (es : List Edge). HasNewest es (length es) c.in_ok-newest.newest × HasPrevious es c.in_ok-newest.previous) c.as_slice.ensures
    (c.in_ok-newest.ensures.newest, c.in_ok-newest.ensures.previous)
