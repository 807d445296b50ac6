use Rattle.std.proofs.Common.{Contains, arith, ap, length, subst}
use Rattle.std.proofs.lemmas.Option.{slice_get_within}
use Rattle.lalrpop_lr1_paths.specs.Graphs.{edges_at, graph_edges}
use Rattle.lalrpop_lr1_paths.proofs.EnteringLemmas.{are_entering}
use Rattle.lalrpop_lr1_paths.proofs.graph_paths.paths.settle.Goals as goal

pub push_edges-requires : goal.push_edges-requires
push_edges-requires c = λ e m.
    let graph = c.args.graph.now in
    let are = are_entering (graph_edges graph) (edges_at graph.entering) c.requires.entering in
    let enters = are.only c.args.entry.node e (subst (λ l. Contains l e) c.entering.ensures m) in
    omega (arith, slice_get_within graph.edges.items e enters.edge enters.at, ap length c.as_slice.ensures.value)
