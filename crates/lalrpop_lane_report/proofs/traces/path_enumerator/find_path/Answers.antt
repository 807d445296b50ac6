use Rattle.std.proofs.Common.{◌∙◌}
use Rattle.lalrpop_lane_report.proofs.traces.path_enumerator.find_path.Goals as goal

pub search-preserved : goal.search-preserved
search-preserved c =
    let h = rw c.in-Continues.is at (c.in_ok-next.ensures c.search.invariant.walk) in
    record { left = h.0 ∙ c.search.invariant.left; walk = h.1 }

pub search-smaller : goal.search-smaller
search-smaller c =
    let h = rw c.in-Continues.is at (c.in_ok-next.ensures c.search.invariant.walk) in
    h.2

pub returns-in-Found : goal.returns-in-Found
returns-in-Found c =
    let h = rw c.in-Found.is at (c.in_ok-next.ensures c.search.invariant.walk) in
    record { left = h.0 ∙ c.search.invariant.left; walked = h.1 }

pub returns-in-Ends : goal.returns-in-Ends
returns-in-Ends c =
    let h = rw c.in-Ends.is at (c.in_ok-next.ensures c.search.invariant.walk) in
    record { left = h.0 ∙ c.search.invariant.left; walked = h.1 }
