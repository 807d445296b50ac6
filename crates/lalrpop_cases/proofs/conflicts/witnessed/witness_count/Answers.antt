use Rattle.std.proofs.Common.{◌∙◌}
use Rattle.lalrpop_run_parser.proofs.GenerateLemmas.{conflicts_stand}
use Rattle.lalrpop_cases.proofs.conflicts.witnessed.witness_count.Goals as goal

pub see_witnesses-requires : goal.see_witnesses-requires
see_witnesses-requires c =
    conflicts_stand c.args.prepared.now c.expansion.result.now c.in_ok-start.start c.expansion.ensures
    (c.in_ok-start.ensures ∙ c.start_name.ensures) c.in-Err-Conflicts.field-0 c.in-Err-Conflicts.error
    c.in-Err-Conflicts.field-0-is c.in-Err-Conflicts.ensures.fault
