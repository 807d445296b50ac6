use Rattle.std.proofs.Common.{◌∙◌}
use Rattle.lalrpop_run_parser.proofs.GenerateLemmas.{conflicts_stand}
use Rattle.lalrpop_run_tests.proofs.witnesses.witnesses.agree_with_told.Goals as goal

pub agree_in_order-requires : goal.agree_in_order-requires
agree_in_order-requires g c =
    conflicts_stand c.args.prepared.now c.expansion.result.now c.in_ok-start.start c.expansion.ensures
    (c.in_ok-start.ensures ∙ c.start_name.ensures) c.in-Err-Conflicts.field-0 c.in-Err-Conflicts.error
    c.in-Err-Conflicts.field-0-is c.in-Err-Conflicts.ensures.fault
