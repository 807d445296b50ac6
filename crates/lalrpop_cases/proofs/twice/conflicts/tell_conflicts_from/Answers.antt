use Rattle.lalrpop_run_parser.proofs.GenerateLemmas.{conflicts_stand}
use Rattle.lalrpop_cases.proofs.twice.conflicts.tell_conflicts_from.Goals as goal

pub tell_witnesses-requires : goal.tell_witnesses-requires
tell_witnesses-requires g c =
    conflicts_stand c.args.prepared.now c.expansion.result.now c.args.start c.expansion.ensures c.requires c.in-Err-Conflicts.field-0
    c.in-Err-Conflicts.error c.in-Err-Conflicts.field-0-is c.in-Err-Conflicts.ensures.fault
