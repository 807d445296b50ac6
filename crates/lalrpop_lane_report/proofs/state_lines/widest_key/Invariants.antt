use Rattle.std.proofs.Common.{◌≡◌, map}
use Rattle.std.specs.Prelude.{max}
use Rattle.lalrpop_lane_report.specs.Reports.{widest}
use Rattle.lalrpop_lane_report.proofs.state_lines.widest_key.Given as goal

abbrev pub invariant-loop-key : goal.invariant-loop-key
invariant-loop-key g l =
    max l.width (widest (map (λ e. g.K.HasDisplayLen.printed e.0) l.key-iterator)) ≡ widest (map (λ e. g.K.HasDisplayLen.printed e.0) l.edges)
