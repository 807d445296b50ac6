use Rattle.lalrpop_lane_report.proofs.EnumeratorLemmas.{gives_first}
use Rattle.lalrpop_lane_report.proofs.traces.path_enumerator.PathEnumerator.give.Goals as goal

pub returns-in-Ok-advance : goal.returns-in-Ok-advance
returns-in-Ok-advance c =
    gives_first c.args.self.now c.advance.new.self c.in-Ok.example c.requires c.in-Ok.ensures c.in-Ok-advance.ensures.next c.in-Ok-advance.ensures.graph
