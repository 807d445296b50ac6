use Rattle.lalrpop_lane_report.proofs.FilterLemmas.{fits_by}
use Rattle.lalrpop_lane_report.proofs.traces.filtered.fits.Goals as goal

pub returns : goal.returns
returns c = λ p others left g firsts terminals.
    fits_by g c.args.lookahead.now c.in_ok-first.first p c.is_intersecting.result (c.in_ok-first.ensures p others left g firsts terminals)
    c.is_intersecting.ensures.yes c.is_intersecting.ensures.no
