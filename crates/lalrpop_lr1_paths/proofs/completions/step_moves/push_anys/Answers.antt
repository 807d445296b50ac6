use Rattle.std.proofs.Common.{◌∙◌, true, ap, arith, get_or, length, refl, subst}
use Rattle.lalrpop_lr1_least_trees.specs.RestForests.{AnyLeaves}
use Rattle.lalrpop_lr1_paths.specs.StepMoves.{AddsStepIf}
use Rattle.lalrpop_lr1_paths.proofs.AlongLemmas.{nothing_added}
use Rattle.lalrpop_lr1_paths.proofs.EdgeStepLemmas.{any_step, has_moves, turn}
use Rattle.lalrpop_lr1_paths.proofs.completions.step_moves.push_anys.Goals as goal

pub loop-edge-init : goal.loop-edge-init
loop-edge-init c = nothing_added c.args.ways.now true c.args.edges.now c.args.moves.now.items

pub step_at-requires : goal.step_at-requires
step_at-requires c =
    let h = any_step c.args.ways.now c.requires.graphs c.args.edges.now c.requires.edges c.loop-edge.edge-index c.loop-edge-test.true in
    omega (arith, h.within, ap length c.steps-steps.ensures)

pub returns-then-not-branch : goal.returns-then-not-branch
returns-then-not-branch c = λ g s states are.
    let e = get_or c.args.edges.now c.loop-edge.edge-index 0 in
    let h = any_step c.args.ways.now c.requires.graphs c.args.edges.now c.requires.edges c.loop-edge.edge-index c.loop-edge-test.true in
    has_moves c.args.ways.now c.requires.graphs true e e h c.steps-steps.result.now c.steps-steps.ensures c.step_at.result
    c.step_at.ensures c.trees-trees.result.now.table
    (ap (λ t. t.table) (c.trees-trees.ensures ∙ ap (λ p. p.trees.now) c.paths.ensures)) c.loop-edge.moves.items
    c.push_any.new.moves.items
    (subst (AddsStepIf c.trees-trees.result.now.table AnyLeaves c.step_at.result c.loop-edge.moves.items
    c.push_any.new.moves.items) c.if-not-branch.true c.in_ok-push_any.ensures) g s states are

pub loop-edge-preserved : goal.loop-edge-preserved
loop-edge-preserved c =
    let e = get_or c.args.edges.now c.loop-edge.edge-index 0 in
    let h = any_step c.args.ways.now c.requires.graphs c.args.edges.now c.requires.edges c.loop-edge.edge-index c.loop-edge-test.true in
    turn c.args.ways.now c.requires.graphs true e e h c.steps-steps.result.now c.steps-steps.ensures c.step_at.result
    c.step_at.ensures c.trees-trees.result.now.table
    (ap (λ t. t.table) (c.trees-trees.ensures ∙ ap (λ p. p.trees.now) c.paths.ensures)) c.args.edges.now c.loop-edge.edge-index
    c.loop-edge-test.true refl c.args.moves.now.items c.loop-edge.moves.items c.push_any.new.moves.items c.loop-edge.invariant
    (subst (AddsStepIf c.trees-trees.result.now.table AnyLeaves c.step_at.result c.loop-edge.moves.items
    c.push_any.new.moves.items) c.if-not-branch.false c.in_ok-push_any.ensures)
