use Rattle.std.proofs.Common.{◌≡◌, ◌∙◌, Some, false, ap, arith, get_or, length, refl, subst, sym}
use Rattle.std.specs.Prelude.{slice_get}
use Rattle.std.proofs.lemmas.Option.{slice_get_within}
use Rattle.lalrpop_lr1_theory.proofs.StepLemmas.{some_same}
use Rattle.lalrpop_lr1_least_trees.specs.RestForests.{NoLeaves}
use Rattle.lalrpop_lr1_paths.specs.StepMoves.{AddsStepIf}
use Rattle.lalrpop_lr1_paths.proofs.AlongLemmas.{nothing_added}
use Rattle.lalrpop_lr1_paths.proofs.EdgeStepLemmas.{empty_step, has_moves, turn}
use Rattle.lalrpop_lr1_paths.proofs.completions.step_moves.push_empties.Goals as goal

pub loop-edge-init : goal.loop-edge-init
loop-edge-init c = nothing_added c.args.ways.now false c.args.edges.now c.args.moves.now.items

pub number_at-requires : goal.number_at-requires
number_at-requires c =
    let h = empty_step c.args.ways.now c.requires.graphs c.args.edges.now c.requires.edges c.loop-edge.edge-index c.loop-edge-test.true in
    let within = slice_get_within c.args.ways.now.empties.items (get_or c.args.edges.now c.loop-edge.edge-index 0) h.number h.listed in
    omega (arith, within, ap length c.empties-empties.ensures)

pub step_at-step-requires : goal.step_at-step-requires
step_at-step-requires c =
    let h = empty_step c.args.ways.now c.requires.graphs c.args.edges.now c.requires.edges c.loop-edge.edge-index c.loop-edge-test.true in
    let same : h.number ≡ c.number_at.result =
    some_same h.number c.number_at.result (sym h.listed
    ∙ ap (λ l. slice_get l (get_or c.args.edges.now c.loop-edge.edge-index 0)) (sym c.empties-empties.ensures)
    ∙ c.number_at.ensures) in
    omega (arith, same, h.there.within, ap length c.steps-steps.ensures)

pub returns-then-not-branch : goal.returns-then-not-branch
returns-then-not-branch c = λ g s states are.
    let e = get_or c.args.edges.now c.loop-edge.edge-index 0 in
    let h = empty_step c.args.ways.now c.requires.graphs c.args.edges.now c.requires.edges c.loop-edge.edge-index c.loop-edge-test.true in
    has_moves c.args.ways.now c.requires.graphs false e h.number h.there c.steps-steps.result.now c.steps-steps.ensures
    c.step_at-step.result
    (subst (λ k. slice_get c.steps-steps.result.now k ≡ Some c.step_at-step.result)
    (some_same c.number_at.result h.number (sym c.number_at.ensures ∙ ap (λ l. slice_get l e) c.empties-empties.ensures ∙ h.listed))
    c.step_at-step.ensures) c.trees-trees.result.now.table
    (ap (λ t. t.table) (c.trees-trees.ensures ∙ ap (λ p. p.trees.now) c.paths.ensures)) c.loop-edge.moves.items
    c.push_empty.new.moves.items
    (subst (AddsStepIf c.trees-trees.result.now.table NoLeaves c.step_at-step.result c.loop-edge.moves.items
    c.push_empty.new.moves.items) c.if-not-branch.true c.in_ok-push_empty.ensures) g s states are

pub loop-edge-preserved : goal.loop-edge-preserved
loop-edge-preserved c =
    let e = get_or c.args.edges.now c.loop-edge.edge-index 0 in
    let h = empty_step c.args.ways.now c.requires.graphs c.args.edges.now c.requires.edges c.loop-edge.edge-index c.loop-edge-test.true in
    turn c.args.ways.now c.requires.graphs false e h.number h.there c.steps-steps.result.now c.steps-steps.ensures c.step_at-step.result
    (subst (λ k. slice_get c.steps-steps.result.now k ≡ Some c.step_at-step.result)
    (some_same c.number_at.result h.number (sym c.number_at.ensures ∙ ap (λ l. slice_get l e) c.empties-empties.ensures ∙ h.listed))
    c.step_at-step.ensures) c.trees-trees.result.now.table
    (ap (λ t. t.table) (c.trees-trees.ensures ∙ ap (λ p. p.trees.now) c.paths.ensures)) c.args.edges.now c.loop-edge.edge-index
    c.loop-edge-test.true refl c.args.moves.now.items c.loop-edge.moves.items c.push_empty.new.moves.items c.loop-edge.invariant
    (subst (AddsStepIf c.trees-trees.result.now.table NoLeaves c.step_at-step.result c.loop-edge.moves.items
    c.push_empty.new.moves.items) c.if-not-branch.false c.in_ok-push_empty.ensures)
