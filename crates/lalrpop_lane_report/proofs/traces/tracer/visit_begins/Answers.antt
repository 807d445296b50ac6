use Rattle.std.proofs.Common.{◌≡◌, ◌∙◌, ◌+◌, ◌++◌, ◌∷◌, [], get_or, map, refl, take}
use Rattle.std.proofs.lemmas.List.{take_all, take_more}
use Rattle.lalrpop_lr1_core.specs.Edges.{edges_of}
use Rattle.lalrpop_lr1_core.specs.declared.state_index.StateIndex.{StateIndex}
use Rattle.lalrpop_lane_report.specs.Tracings.{pair_asked}
use Rattle.lalrpop_lane_report.proofs.VisitLemmas.{begins_are, no_state, visits_more}
use Rattle.lalrpop_lane_report.proofs.traces.tracer.visit_begins.Goals as goal

pub loop-source-init : goal.loop-source-init
loop-source-init c = no_state (map pair_asked c.args.visited.now.keys) c.args.name.now

pub loop-source-preserved : goal.loop-source-preserved
loop-source-preserved c =
    let i = c.loop-source.source-index in
    let sources = c.as_slice-sources.result.now in
    let none : StateIndex = record { 0 = 0 } in
    let more : take (i + 1) sources ≡ take i sources ++ get_or sources i none ∷ [] = take_more sources i none c.loop-source-test.true in
    visits_more (map pair_asked c.args.visited.now.keys) c.loop-source.visited.keys c.insert.new.self.keys (take i sources) (take (i + 1) sources)
    (get_or sources i none) c.args.name.now _ refl refl more c.in_ok-insert.ensures.keys c.loop-source.invariant

pub returns : goal.returns
returns c =
    let sources = c.as_slice-sources.result.now in
    begins_are (map pair_asked c.args.visited.now.keys) (map pair_asked c.loop-source.visited.keys) c.in_ok-states.states.items
    (take c.loop-source.source-index sources) c.args.ground.now.state_graph (edges_of c.args.ground.now.states.now) c.args.prefix.now c.args.state
    c.args.name.now (take_all c.loop-source.source-index sources c.loop-source-test.false ∙ c.as_slice-sources.ensures.value) c.requires
    c.in_ok-states.ensures.leads c.loop-source.invariant
