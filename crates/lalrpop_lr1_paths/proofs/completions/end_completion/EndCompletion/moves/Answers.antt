use Rattle.std.proofs.Common.{None, Some, ap, false, subst, sym, true}
use Rattle.lalrpop_lr1_paths.specs.Graphs.{graph_edges}
use Rattle.lalrpop_lr1_least_trees.specs.RestForests.{NoLeaves}
use Rattle.lalrpop_lr1_paths.specs.StepMoves.{AddsAlongIf, AddsWayIf, AreGraphEdges}
use Rattle.lalrpop_lr1_paths.proofs.WayLemmas.{empty_there, named_there, node_by, none_in, path_edges, path_in, told_way, way_added_if}
use Rattle.lalrpop_lr1_paths.proofs.completions.end_completion.EndCompletion.moves.Goals as goal

pub returns-in_default : goal.returns-in_default
returns-in_default c = λ g s states are ms w out wanted.
    let it = c.args.self.now.ways.now in
    named_there it c.requires.graphs g s states are c.args.state c.args.nonterminal.now.0 ms w out
    (node_by it c.paths.result.now c.paths.ensures c.args.state c.args.nonterminal.now.0 c.in_ok-node.field-0 None c.in_default.is
    c.in_ok-node.ensures)

pub returns-in_default-2 : goal.returns-in_default-2
returns-in_default-2 c = λ g s states are ms w out wanted.
    let it = c.args.self.now in
    let none = none_in (graph_edges it.found.graph.now) (graph_edges it.ways.now.empty) it.found.goals.now it.ways.now.goals.items
    (ap graph_edges c.requires.graph) c.requires.goals c.in-Some.node c.in_ok-path.field-0 c.in_default-2.is c.in_ok-path.ensures.path in
    let there = empty_there it.ways.now c.requires.graphs g s states are c.args.state c.args.nonterminal.now.0 ms w out wanted
    c.in-Some.node
    (node_by it.ways.now c.paths.result.now c.paths.ensures c.args.state c.args.nonterminal.now.0 c.in_ok-node.field-0 (Some c.in-Some.node)
    c.in-Some.is c.in_ok-node.ensures) in
    none there.edges_of there.goal there.is

pub push_empties-requires-clause-edges : goal.push_empties-requires-clause-edges
push_empties-requires-clause-edges c =
    let it = c.args.self.now in
    let path = c.in-Some-2.path in
    subst (AreGraphEdges (graph_edges it.ways.now.empty)) (sym c.as_slice.ensures.value)
    (path_edges (graph_edges it.ways.now.empty) it.ways.now.goals.items c.in-Some.node path.edges.items path.goal
    (path_in (graph_edges it.found.graph.now) (graph_edges it.ways.now.empty) it.found.goals.now it.ways.now.goals.items
    (ap graph_edges c.requires.graph) c.requires.goals c.in-Some.node c.in_ok-path.field-0 path c.in-Some-2.is c.in_ok-path.ensures.path))

pub returns-then-branch : goal.returns-then-branch
returns-then-branch c = λ g s states are.
    let it = c.args.self.now in
    let path = c.in-Some-2.path in
    told_way it.ways.now c.in-Some.node NoLeaves c.push_empties.new.moves.items
    (subst (λ l. AddsWayIf it.ways.now c.in-Some.node NoLeaves l c.push_empties.new.moves.items true) c.new-moves.ensures.items
    (way_added_if it.ways.now false c.in-Some.node path.edges.items path.goal
    (path_in (graph_edges it.found.graph.now) (graph_edges it.ways.now.empty) it.found.goals.now it.ways.now.goals.items
    (ap graph_edges c.requires.graph) c.requires.goals c.in-Some.node c.in_ok-path.field-0 path c.in-Some-2.is c.in_ok-path.ensures.path)
    c.new-moves.result.items c.push_empties.new.moves.items true
    (subst (λ es. AddsAlongIf it.ways.now false es c.new-moves.result.items c.push_empties.new.moves.items true) c.as_slice.ensures.value
    (subst (AddsAlongIf it.ways.now false c.as_slice.result.now c.new-moves.result.items c.push_empties.new.moves.items) c.if-branch.true
    c.in_ok-push_empties.ensures))))
    g s states are c.args.state c.args.nonterminal.now.0
    (node_by it.ways.now c.paths.result.now c.paths.ensures c.args.state c.args.nonterminal.now.0 c.in_ok-node.field-0 (Some c.in-Some.node)
    c.in-Some.is c.in_ok-node.ensures)

pub returns : goal.returns
returns c = λ g s states are.
    let it = c.args.self.now in
    let path = c.in-Some-2.path in
    (way_added_if it.ways.now false c.in-Some.node path.edges.items path.goal
    (path_in (graph_edges it.found.graph.now) (graph_edges it.ways.now.empty) it.found.goals.now it.ways.now.goals.items
    (ap graph_edges c.requires.graph) c.requires.goals c.in-Some.node c.in_ok-path.field-0 path c.in-Some-2.is c.in_ok-path.ensures.path)
    c.new-moves.result.items c.push_empties.new.moves.items false
    (subst (λ es. AddsAlongIf it.ways.now false es c.new-moves.result.items c.push_empties.new.moves.items false) c.as_slice.ensures.value
    (subst (AddsAlongIf it.ways.now false c.as_slice.result.now c.new-moves.result.items c.push_empties.new.moves.items) c.if-branch.false
    c.in_ok-push_empties.ensures)))
    g s states are c.args.state c.args.nonterminal.now.0
    (node_by it.ways.now c.paths.result.now c.paths.ensures c.args.state c.args.nonterminal.now.0 c.in_ok-node.field-0 (Some c.in-Some.node)
    c.in-Some.is c.in_ok-node.ensures)
