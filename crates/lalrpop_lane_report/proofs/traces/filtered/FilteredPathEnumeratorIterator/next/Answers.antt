use Rattle.std.proofs.Common.{refl}
use Rattle.lalrpop_lane_report.proofs.FilterLemmas.{fitting_given}
use Rattle.lalrpop_lane_report.proofs.traces.filtered.FilteredPathEnumeratorIterator.next.Goals as goal

pub returns-in-Ok-clause-steps : goal.returns-in-Ok-clause-steps
returns-in-Ok-clause-steps c =
    rw (← c.self.view_is)
    (fitting_given _ _ c.skip_unfit.new.paths c.next.result c.in-Ok.ensures.graph c.in-Ok.ensures.shorter c.in-Ok.ensures.skipped
    c.next.ensures.steps refl)
