use Rattle.std.proofs.Common.{◌∙◌, ap}
use Rattle.std.specs.Prelude.{◌==◌}
use Rattle.lalrpop_lane_report.proofs.EnumeratorLemmas.{found_is}
use Rattle.lalrpop_lane_report.proofs.traces.path_enumerator.PathEnumerator.found_trace.Goals as goal

pub returns : goal.returns
returns c =
    found_is c.self.inside.nodes.now c.self.inside.edges.now c.self.inside.steps.items c.args.self.now c.is_empty.result c.self.view_is
    (c.is_empty.ensures ∙ ap (λ n. n == 0) c.self.inside.steps.ok.0)
