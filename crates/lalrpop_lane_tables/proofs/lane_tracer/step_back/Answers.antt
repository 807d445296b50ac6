use Rattle.std.proofs.Common.{◌≡◌, List, Some, map, refl, slice_get, subst}
use Rattle.std.proofs.lemmas.Result.{on_ok_weaker}
use Rattle.lalrpop_grammar_repr.specs.declared.production.Symbol.{Symbol}
use Rattle.lalrpop_lr1_core.specs.Edges.{sources_of}
use Rattle.lalrpop_lr1_core.specs.Views.{production_view}
use Rattle.lalrpop_lr1_core.specs.declared.edge.Edge.{Edge}
use Rattle.lalrpop_lane_tables.specs.LaneTraces.{StepsToSources}
use Rattle.lalrpop_lane_tables.specs.NodeKeys.{node_key}
use Rattle.lalrpop_lane_tables.proofs.BackLemmas.{back_steps}
use Rattle.lalrpop_lane_tables.proofs.InsertLemmas.{get_of}
use Rattle.lalrpop_lane_tables.proofs.lane_tracer.step_back.Goals as goal

pub returns-then-place-symbols : goal.returns-then-place-symbols
returns-then-place-symbols g c =
    let at : slice_get c.args.rule.0.now.symbols c.args.place ≡ Some c.index-symbols-place.result =
    subst (λ (side : List Symbol). slice_get side c.args.place ≡ Some c.index-symbols-place.result) c.as_slice-symbols.ensures
    (get_of c.as_slice-symbols.result.now c.args.place c.index-symbols-place.result c.if-place-symbols.true c.index-symbols-place.is) in
    on_ok_weaker c.step_to_sources.result
    (λ steps. λ look k.
    back_steps look c.args.ground.now.grammar.now c.args.ground.now.start.0 c.args.ground.now.states.now c.args.state
    (production_view c.args.rule.0.now) c.args.rule.0.now.symbols refl c.args.place c.index-symbols-place.result at k
    (map node_key c.args.visited.now.keys) (map node_key c.step_to_sources.new.visited.keys) c.args.table.now c.step_to_sources.new.table
    (subst (λ (graph : List Edge). StepsToSources (sources_of c.args.state c.index-symbols-place.result graph) c.args.state
    (production_view c.args.rule.0.now) c.args.place k (map node_key c.args.visited.now.keys)
    (map node_key c.step_to_sources.new.visited.keys) c.args.table.now c.step_to_sources.new.table) c.requires.ground.graph_of (steps k)))
    c.step_to_sources.ensures
