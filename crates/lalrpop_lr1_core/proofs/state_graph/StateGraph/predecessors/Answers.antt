use Rattle.std.proofs.Common.{◌∙◌, ap, arith, length, take}
use Rattle.std.proofs.lemmas.List.{take_all}
use Rattle.lalrpop_lr1_core.specs.IncomingEdges.{edges_to}
use Rattle.lalrpop_lr1_core.proofs.IncomingLemmas.{sources_by_edges_to}
use Rattle.lalrpop_lr1_core.proofs.state_graph.StateGraph.predecessors.Goals as goal

pub returns : goal.returns
returns c =
    let edges = c.args.self.now in
    sources_by_edges_to c.args.state.0 c.args.symbol.now (take c.count_to.result edges) edges
    (c.count_to.ensures.1 ∙ ap (edges_to c.args.state.0) (take_all (length edges) edges (omega arith)))
