use Rattle.std.proofs.Common.{ap, subst, sym, true}
use Rattle.std.proofs.lemmas.Result.{IfOk-weaker}
use Rattle.lalrpop_lr1_paths.specs.Graphs.{graph_edges}
use Rattle.lalrpop_lr1_paths.specs.StepMoves.{AddsAlongIf, AreGraphEdges}
use Rattle.lalrpop_lr1_paths.proofs.WayLemmas.{any_there, none_in, path_edges, path_in, way_added_if}
use Rattle.lalrpop_lr1_paths.proofs.completions.any_completion.AnyCompletion.push_from.Goals as goal

pub returns-in_default : goal.returns-in_default
returns-in_default c = λ g s states are n B at ms w out wanted.
    let it = c.args.self.now in
    let none = none_in (graph_edges it.found.graph.now) (graph_edges it.ways.now.any) it.found.goals.now it.ways.now.goals.items
    (ap graph_edges c.requires.graph) c.requires.goals c.args.node c.in_ok-path.field-0 c.in_default.is c.in_ok-path.ensures.path in
    let there = any_there it.ways.now c.requires.graphs g s states are n B ms w out c.args.node at in
    none there.edges_of there.goal there.is

pub push_anys-requires-clause-edges : goal.push_anys-requires-clause-edges
push_anys-requires-clause-edges c =
    let it = c.args.self.now in
    let path = c.in-Some.path in
    subst (AreGraphEdges (graph_edges it.ways.now.any)) (sym c.as_slice.ensures.value)
    (path_edges (graph_edges it.ways.now.any) it.ways.now.goals.items c.args.node path.edges.items path.goal
    (path_in (graph_edges it.found.graph.now) (graph_edges it.ways.now.any) it.found.goals.now it.ways.now.goals.items
    (ap graph_edges c.requires.graph) c.requires.goals c.args.node c.in_ok-path.field-0 path c.in-Some.is c.in_ok-path.ensures.path))

pub returns : goal.returns
returns c =
    let it = c.args.self.now in
    let path = c.in-Some.path in
    IfOk-weaker c.push_anys.result _ _
    (λ yes h. way_added_if it.ways.now true c.args.node path.edges.items path.goal
    (path_in (graph_edges it.found.graph.now) (graph_edges it.ways.now.any) it.found.goals.now it.ways.now.goals.items
    (ap graph_edges c.requires.graph) c.requires.goals c.args.node c.in_ok-path.field-0 path c.in-Some.is c.in_ok-path.ensures.path)
    c.args.moves.now.items c.push_anys.new.moves.items yes
    (subst (λ es. AddsAlongIf it.ways.now true es c.args.moves.now.items c.push_anys.new.moves.items yes) c.as_slice.ensures.value h))
    c.push_anys.ensures
