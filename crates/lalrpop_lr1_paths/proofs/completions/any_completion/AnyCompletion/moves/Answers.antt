use Rattle.std.proofs.Common.{None, Some, subst, true}
use Rattle.lalrpop_lr1_least_trees.specs.RestForests.{AnyLeaves}
use Rattle.lalrpop_lr1_paths.specs.StepMoves.{AddsWayIf}
use Rattle.lalrpop_lr1_paths.proofs.WayLemmas.{named_there, node_by, told_way}
use Rattle.lalrpop_lr1_paths.proofs.completions.any_completion.AnyCompletion.moves.Goals as goal

pub returns-in_default : goal.returns-in_default
returns-in_default c = λ g s states are ms w out wanted.
    let it = c.args.self.now.ways.now in
    named_there it c.requires.graphs g s states are c.args.state c.args.nonterminal.now.0 ms w out
    (node_by it c.paths.result.now c.paths.ensures c.args.state c.args.nonterminal.now.0 c.in_ok-node.field-0 None c.in_default.is
    c.in_ok-node.ensures)

pub returns-then-branch : goal.returns-then-branch
returns-then-branch c = λ g s states are.
    let it = c.args.self.now.ways.now in
    told_way it c.in-Some.node AnyLeaves c.push_from.new.moves.items
    (subst (λ l. AddsWayIf it c.in-Some.node AnyLeaves l c.push_from.new.moves.items true) c.new-moves.ensures.items
    (subst (AddsWayIf it c.in-Some.node AnyLeaves c.new-moves.result.items c.push_from.new.moves.items) c.if-branch.true
    c.in_ok-push_from.ensures)) g s states are c.args.state c.args.nonterminal.now.0
    (node_by it c.paths.result.now c.paths.ensures c.args.state c.args.nonterminal.now.0 c.in_ok-node.field-0 (Some c.in-Some.node)
    c.in-Some.is c.in_ok-node.ensures)

pub returns : goal.returns
returns c = λ g s states are.
    let it = c.args.self.now.ways.now in
    subst (AddsWayIf it c.in-Some.node AnyLeaves c.new-moves.result.items c.push_from.new.moves.items) c.if-branch.false
    c.in_ok-push_from.ensures g s states are c.args.state c.args.nonterminal.now.0
    (node_by it c.paths.result.now c.paths.ensures c.args.state c.args.nonterminal.now.0 c.in_ok-node.field-0 (Some c.in-Some.node)
    c.in-Some.is c.in_ok-node.ensures)
