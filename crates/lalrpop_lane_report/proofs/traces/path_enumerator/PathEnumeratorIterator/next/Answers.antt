use Rattle.std.proofs.Common.{refl, rules}
use Rattle.lalrpop_lane_report.proofs.EnumeratorLemmas.{none_found}
use Rattle.lalrpop_lane_report.proofs.traces.path_enumerator.PathEnumeratorIterator.next.Goals as goal

pub returns-else-found_trace : goal.returns-else-found_trace
returns-else-found_trace c =
    let none = none_found c.args.self.now.left c.found_trace.result c.found_trace.ensures c.if-found_trace.false in
    record { steps = (none, none, refl); goes = search rules }
