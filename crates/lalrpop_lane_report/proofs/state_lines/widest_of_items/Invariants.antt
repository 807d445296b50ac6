use Rattle.std.proofs.Common.{◌≡◌, map}
use Rattle.std.specs.Prelude.{drop, max}
use Rattle.lalrpop_lane_report.specs.Reports.{widest}
use Rattle.lalrpop_lane_report.proofs.state_lines.widest_of_items.Given as goal

abbrev pub invariant-loop-item : goal.invariant-loop-item
invariant-loop-item g l =
    max l.width (widest (map (λ i. i.production.now.nonterminal.0) (drop l.item-index l.items)))
    ≡ widest (map (λ i. i.production.now.nonterminal.0) l.items)
