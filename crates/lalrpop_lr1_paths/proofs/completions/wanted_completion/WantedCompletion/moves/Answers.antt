use Rattle.std.proofs.Common.{None, Some, ap, subst, true}
use Rattle.lalrpop_grammar_symbols.specs.Views.{terminal_view}
use Rattle.lalrpop_lr1_paths.specs.GraphPaths.{IsPathIfSome}
use Rattle.lalrpop_lr1_paths.specs.Graphs.{graph_edges}
use Rattle.lalrpop_lr1_least_trees.specs.RestForests.{BeginsWith}
use Rattle.lalrpop_lr1_paths.specs.StepMoves.{AddsWayIf}
use Rattle.lalrpop_lr1_paths.proofs.WantedWayLemmas.{wanted_there}
use Rattle.lalrpop_lr1_paths.proofs.WayLemmas.{named_there, node_by, none_in, told_way}
use Rattle.lalrpop_lr1_paths.proofs.completions.wanted_completion.WantedCompletion.moves.Goals as goal

pub returns-in_default : goal.returns-in_default
returns-in_default c = λ g s states are ms w leads wanted.
    let out = c.args.self.now in
    let it = out.steps.now in
    let ways = it.any.now.ways.now in
    named_there ways c.requires.steps.any.graphs g s states are c.args.state c.args.nonterminal.now.0 ms w leads
    (node_by ways c.paths.result.now c.paths.ensures c.args.state c.args.nonterminal.now.0 c.in_ok-node.field-0 None c.in_default.is
    c.in_ok-node.ensures)

pub returns-in_default-2 : goal.returns-in_default-2
returns-in_default-2 c = λ g s states are ms w leads wanted.
    let out = c.args.self.now in
    let it = out.steps.now in
    let ways = it.any.now.ways.now in
    let none = none_in (graph_edges out.found.graph.now) (graph_edges ways.empty) out.found.goals.now it.goals.items
    (ap graph_edges c.requires.graph) c.requires.goals c.in-Some.node c.in_ok-path.field-0 c.in_default-2.is c.in_ok-path.ensures.path in
    let there = wanted_there it c.requires.steps g s states are c.args.state c.args.nonterminal.now.0 ms w leads wanted c.in-Some.node
    (node_by ways c.paths.result.now c.paths.ensures c.args.state c.args.nonterminal.now.0 c.in_ok-node.field-0 (Some c.in-Some.node)
    c.in-Some.is c.in_ok-node.ensures) in
    none there.edges_of there.goal there.is

pub push_path-requires-clause-path : goal.push_path-requires-clause-path
push_path-requires-clause-path c =
    let out = c.args.self.now in
    let it = out.steps.now in
    let ways = it.any.now.ways.now in (
      c.in-Some.node,
      subst (IsPathIfSome (graph_edges out.found.graph.now) out.found.goals.now c.in-Some.node) c.in-Some-2.is c.in_ok-path.ensures.path,
    )

pub returns-then-branch : goal.returns-then-branch
returns-then-branch c = λ g s states are.
    let out = c.args.self.now in
    let it = out.steps.now in
    let ways = it.any.now.ways.now in
    told_way ways c.in-Some.node (BeginsWith (terminal_view it.terminal)) c.push_path.new.moves.items
    (subst (λ l. AddsWayIf ways c.in-Some.node (BeginsWith (terminal_view it.terminal)) l c.push_path.new.moves.items true)
    c.new-moves.ensures.items
    (subst (AddsWayIf ways c.in-Some.node (BeginsWith (terminal_view it.terminal)) c.new-moves.result.items c.push_path.new.moves.items)
    c.if-branch.true
    (c.in_ok-push_path.ensures c.in-Some.node
    (subst (IsPathIfSome (graph_edges out.found.graph.now) out.found.goals.now c.in-Some.node) c.in-Some-2.is c.in_ok-path.ensures.path))))
    g s states are c.args.state c.args.nonterminal.now.0
    (node_by ways c.paths.result.now c.paths.ensures c.args.state c.args.nonterminal.now.0 c.in_ok-node.field-0 (Some c.in-Some.node)
    c.in-Some.is c.in_ok-node.ensures)

pub returns : goal.returns
returns c = λ g s states are.
    let out = c.args.self.now in
    let it = out.steps.now in
    let ways = it.any.now.ways.now in
    (subst (AddsWayIf ways c.in-Some.node (BeginsWith (terminal_view it.terminal)) c.new-moves.result.items c.push_path.new.moves.items)
    c.if-branch.false
    (c.in_ok-push_path.ensures c.in-Some.node
    (subst (IsPathIfSome (graph_edges out.found.graph.now) out.found.goals.now c.in-Some.node) c.in-Some-2.is c.in_ok-path.ensures.path)))
    g s states are c.args.state c.args.nonterminal.now.0
    (node_by ways c.paths.result.now c.paths.ensures c.args.state c.args.nonterminal.now.0 c.in_ok-node.field-0 (Some c.in-Some.node)
    c.in-Some.is c.in_ok-node.ensures)
