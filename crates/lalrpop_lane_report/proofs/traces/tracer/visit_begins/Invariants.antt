use Rattle.std.proofs.Common.{map, take}
use Rattle.lalrpop_lane_report.specs.Tracings.{GainsPairs, pair_asked}
use Rattle.lalrpop_lane_report.proofs.VisitLemmas.{In}
use Rattle.lalrpop_lane_report.proofs.traces.tracer.visit_begins.Given as goal

abbrev pub invariant-loop-source : goal.invariant-loop-source
invariant-loop-source l =
    GainsPairs (map pair_asked l.fn.visited.keys) (In (take l.source-index l.sources) l.name) (map pair_asked l.visited.keys)
