use Rattle.std.proofs.Common.{◌∙◌, ◌+◌, ◌∷◌, ap, arith, drop, map, sym}
use Rattle.std.proofs.lemmas.List.{drop_all, drop_more}
use Rattle.lalrpop_lane_report.specs.TraceNodes.{node_view}
use Rattle.lalrpop_lane_report.proofs.ExampleLemmas.{item_in, reducing_begins, reducing_ends, reducing_goes_on, reducing_room}
use Rattle.lalrpop_lane_report.proofs.traces.path_examples.push_reductions.Goals as goal

pub loop-step-init : goal.loop-step-init
loop-step-init c =
    reducing_begins (map node_view c.args.nodes.now) c.args.steps.now c.args.cursor c.args.inside c.args.out.now.items c.requires.cursor
    c.requires.room

pub overflow_sub-start : goal.overflow_sub-start
overflow_sub-start c =
    let i = c.loop-step.step-index in
    let steps = c.args.steps.now in
    let h = (reducing_room (map node_view c.args.nodes.now) (drop i steps) (drop (i + 1) steps) c.step-item.result c.loop-step.start c.loop-step.end
    c.loop-step.out.items _ (drop_more steps i c.step-item.result c.loop-step-test.true ∙ ap (λ x. x ∷ drop (i + 1) steps) (sym c.step-item.is))
    c.loop-step.invariant).0 in
    omega (arith, h)

pub returns : goal.returns
returns c =
    reducing_ends (map node_view c.args.nodes.now) (drop c.loop-step.step-index c.args.steps.now) c.loop-step.start c.loop-step.end
    c.loop-step.out.items _ (drop_all c.loop-step.step-index c.args.steps.now c.loop-step-test.false) c.loop-step.invariant

pub name_at-requires : goal.name_at-requires
name_at-requires c =
    c.requires.within c.step-item.result
    (item_in c.args.steps.now c.loop-step.step-index c.step-item.result c.loop-step-test.true c.step-item.is)

pub loop-step-preserved : goal.loop-step-preserved
loop-step-preserved c =
    let i = c.loop-step.step-index in
    let steps = c.args.steps.now in
    reducing_goes_on (map node_view c.args.nodes.now) (drop i steps) (drop (i + 1) steps) c.step-item.result c.loop-step.start c.loop-step.end
    c.loop-step.out.items c.push.new.self.items _ c.in_ok-nonterminal.nonterminal
    (drop_more steps i c.step-item.result c.loop-step-test.true ∙ ap (λ x. x ∷ drop (i + 1) steps) (sym c.step-item.is))
    (c.in_ok-nonterminal.ensures ∙ c.name_at.ensures) c.in_ok-push.ensures.items c.loop-step.invariant
