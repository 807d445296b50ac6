use Rattle.lalrpop_lane_report.proofs.EnumeratorLemmas.{nothing_shown}
use Rattle.lalrpop_lane_report.proofs.traces.path_examples.push_cursor.Goals as goal

pub returns-else-is_empty : goal.returns-else-is_empty
returns-else-is_empty c =
    nothing_shown c.args.out.now.items c.args.steps.now c.in-Some.innermost.now c.is_empty.result c.in-Some.ensures.value c.in_default-cursor.is
    c.is_empty.ensures c.if-is_empty.false
