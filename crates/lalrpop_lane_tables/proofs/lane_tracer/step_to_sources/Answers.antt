use Rattle.std.proofs.Common.{rules, ◌≡◌, ◌∷◌, [], map}
use Rattle.lalrpop_lr1_core.specs.Edges.{sources_of}
use Rattle.lalrpop_lr1_core.specs.EdgesLeft.{predecessors_left}
use Rattle.lalrpop_lr1_core.specs.Views.{production_view}
use Rattle.lalrpop_lane_tables.specs.NodeKeys.{node_key}
use Rattle.lalrpop_lane_tables.proofs.BackLemmas.{stepping_begins, stepping_ends, stepping_goes_on}
use Rattle.lalrpop_lane_tables.proofs.lane_tracer.step_to_sources.Goals as goal

pub loop-from-init : goal.loop-from-init
loop-from-init c = λ k.
    stepping_begins (sources_of c.args.to c.args.symbol.now c.args.graph.now) c.args.to (production_view c.args.rule.0.now) c.args.place k
    (map node_key c.args.visited.now.keys) c.args.table.now (predecessors_left c.predecessors-sources.result) c.predecessors-sources.ensures

pub loop-from-preserved : goal.loop-from-preserved
loop-from-preserved c = λ k.
    let left : predecessors_left c.loop-from.sources ≡ c.in-Some.from ∷ predecessors_left c.next.new.self = search rules in
    stepping_goes_on (sources_of c.args.to c.args.symbol.now c.args.graph.now) c.args.to (production_view c.args.rule.0.now) c.args.place k
    (map node_key c.args.visited.now.keys) c.args.table.now (predecessors_left c.loop-from.sources) (predecessors_left c.next.new.self)
    c.in-Some.from (map node_key c.loop-from.visited.keys) (map node_key c.step_to.new.visited.keys) c.loop-from.table c.step_to.new.table
    left (c.loop-from.invariant k) c.in_ok-step_to.ensures.nodes (c.in_ok-step_to.ensures.gains k)

pub returns : goal.returns
returns c = λ k.
    let left : predecessors_left c.loop-from.sources ≡ [] = search rules in
    stepping_ends (sources_of c.args.to c.args.symbol.now c.args.graph.now) c.args.to (production_view c.args.rule.0.now) c.args.place k
    (map node_key c.args.visited.now.keys) c.args.table.now (predecessors_left c.loop-from.sources) (map node_key c.loop-from.visited.keys)
    c.loop-from.table left (c.loop-from.invariant k)
