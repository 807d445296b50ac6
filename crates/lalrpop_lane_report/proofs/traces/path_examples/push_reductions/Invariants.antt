use Rattle.std.proofs.Common.{◌++◌, drop, map}
use Rattle.lalrpop_lane_report.specs.Examples.{reductions_over}
use Rattle.lalrpop_lane_report.specs.TraceNodes.{node_view}
use Rattle.lalrpop_lane_report.proofs.ExampleLemmas.{IsReducing, named}
use Rattle.lalrpop_lane_report.proofs.traces.path_examples.push_reductions.Given as goal

abbrev pub invariant-loop-step : goal.invariant-loop-step
invariant-loop-step l =
    IsReducing (map node_view l.nodes) (drop l.step-index l.steps) l.start l.end l.out.items
    (l.fn.out.items ++ reductions_over l.inside (named (map node_view l.nodes) l.steps))
