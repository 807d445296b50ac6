use Rattle.std.proofs.Common.{ℕ, length, map}
use Rattle.lalrpop_lr1_core.specs.Edges.{sources_of}
use Rattle.lalrpop_lr1_core.specs.EdgesLeft.{predecessors_left}
use Rattle.lalrpop_lr1_core.specs.Views.{production_view}
use Rattle.lalrpop_lane_tables.specs.NodeKeys.{node_key}
use Rattle.lalrpop_lane_tables.proofs.BackLemmas.{SteppedToSources}
use Rattle.lalrpop_lane_tables.proofs.lane_tracer.step_to_sources.Given as goal

abbrev pub invariant-loop-from : goal.invariant-loop-from
invariant-loop-from l =
    (c : ℕ) → SteppedToSources (sources_of l.to l.symbol l.graph) (predecessors_left l.sources) l.to (production_view l.rule.0.now) l.place c
    (map node_key l.fn.visited.keys) (map node_key l.visited.keys) l.fn.table l.table

abbrev pub decreases-loop-from : goal.decreases-loop-from
decreases-loop-from l = length (predecessors_left l.sources)
