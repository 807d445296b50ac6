use Rattle.std.proofs.Common.{ap, arith, false, length, subst, sym, true}
use Rattle.std.proofs.lemmas.Result.{IfOk-weaker}
use Rattle.lalrpop_grammar_symbols.specs.Views.{terminal_view}
use Rattle.lalrpop_lr1_paths.specs.Graphs.{graph_edges}
use Rattle.lalrpop_lr1_least_trees.specs.RestForests.{BeginsWith}
use Rattle.lalrpop_lr1_paths.specs.StepMoves.{AddsAlongIf, AddsStepIf, AreGraphEdges}
use Rattle.lalrpop_lr1_paths.proofs.WantedWayLemmas.{begin_there, number_is, path_step, step_is, told_by, wanted_from}
use Rattle.lalrpop_lr1_paths.proofs.WayLemmas.{path_edges}
use Rattle.lalrpop_lr1_paths.proofs.completions.wanted_completion.WantedCompletion.push_path.Goals as goal

pub number_at-requires : goal.number_at-requires
number_at-requires c =
    let out = c.args.self.now in
    let it = out.steps.now in
    let path = c.args.path.now in
    let there = wanted_from out c.requires.out c.requires.path.0 path c.requires.path.1 in
    let h = path_step it c.requires.out.steps c.requires.path.0 path.edges.items path.goal there in
    omega (arith, h.place, ap length c.as_slice.ensures.value)

pub step_at-step-requires : goal.step_at-step-requires
step_at-step-requires c =
    let out = c.args.self.now in
    let it = out.steps.now in
    let path = c.args.path.now in
    let there = wanted_from out c.requires.out c.requires.path.0 path c.requires.path.1 in
    let h = path_step it c.requires.out.steps c.requires.path.0 path.edges.items path.goal there in
    let same = number_is it c.requires.out.steps path.goal h c.as_slice.result.now c.as_slice.ensures.value c.number_at.result
    c.number_at.ensures in
    omega (arith, same, h.within, ap length c.steps.ensures)

pub push_empties-requires-clause-edges : goal.push_empties-requires-clause-edges
push_empties-requires-clause-edges c =
    let out = c.args.self.now in
    let it = out.steps.now in
    let path = c.args.path.now in
    subst (AreGraphEdges (graph_edges it.any.now.ways.now.empty)) (sym c.as_slice-2.ensures.value)
    (path_edges (graph_edges it.any.now.ways.now.empty) it.goals.items c.requires.path.0 path.edges.items path.goal
    (wanted_from out c.requires.out c.requires.path.0 path c.requires.path.1))

pub returns-then-not-branch : goal.returns-then-not-branch
returns-then-not-branch c = λ node from g s states w n B at ms left leads begins.
    subst (AddsAlongIf c.args.self.now.steps.now.any.now.ways.now false c.as_slice-2.result.now c.args.moves.now.items
    c.push_empties.new.moves.items) c.if-not-branch.true c.in_ok-push_empties.ensures g s states w

pub returns-then-not-branch-2 : goal.returns-then-not-branch-2
returns-then-not-branch-2 c = λ node from g s states w n B at ms left leads begins.
    let out = c.args.self.now in
    let it = out.steps.now in
    let path = c.args.path.now in
    let there = wanted_from out c.requires.out c.requires.path.0 path c.requires.path.1 in
    let h = path_step it c.requires.out.steps c.requires.path.0 path.edges.items path.goal there in
    let same = step_is it c.requires.out.steps path.goal h c.as_slice.result.now c.steps.result.now c.as_slice.ensures.value c.steps.ensures
    c.number_at.result c.step_at-step.result c.number_at.ensures c.step_at-step.ensures in
    begin_there it c.requires.out.steps path.goal h c.step_at-step.result same c.push_empties.new.moves.items c.push_begin.new.moves.items
    (subst (AddsStepIf it.begins.trees.now.table (BeginsWith (terminal_view it.terminal)) c.step_at-step.result
    c.push_empties.new.moves.items c.push_begin.new.moves.items) c.if-not-branch-2.true c.in_ok-push_begin.ensures) g s states w

pub returns : goal.returns
returns c =
    let out = c.args.self.now in
    let it = out.steps.now in
    let path = c.args.path.now in
    let there = wanted_from out c.requires.out c.requires.path.0 path c.requires.path.1 in
    let h = path_step it c.requires.out.steps c.requires.path.0 path.edges.items path.goal there in
    let same = step_is it c.requires.out.steps path.goal h c.as_slice.result.now c.steps.result.now c.as_slice.ensures.value c.steps.ensures
    c.number_at.result c.step_at-step.result c.number_at.ensures c.step_at-step.ensures in
    IfOk-weaker c.push_from.result _ _
    (λ yes added node from. told_by it c.requires.out.steps path.goal h c.step_at-step.result same node path.edges.items
    (wanted_from out c.requires.out node path from) c.args.moves.now.items c.push_empties.new.moves.items c.push_begin.new.moves.items
    c.push_from.new.moves.items
    (subst (λ es. AddsAlongIf it.any.now.ways.now false es c.args.moves.now.items c.push_empties.new.moves.items true)
    c.as_slice-2.ensures.value
    (subst (AddsAlongIf it.any.now.ways.now false c.as_slice-2.result.now c.args.moves.now.items c.push_empties.new.moves.items)
    c.if-not-branch.false c.in_ok-push_empties.ensures))
    (subst (AddsStepIf it.begins.trees.now.table (BeginsWith (terminal_view it.terminal)) c.step_at-step.result
    c.push_empties.new.moves.items c.push_begin.new.moves.items) c.if-not-branch-2.false c.in_ok-push_begin.ensures) yes added)
    c.push_from.ensures
