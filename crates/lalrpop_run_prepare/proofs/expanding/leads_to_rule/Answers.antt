use Rattle.std.proofs.Common.{◌∙◌}
use Rattle.lalrpop_run_prepare.proofs.StartRuleLemmas.{some_lead}
use Rattle.lalrpop_run_prepare.proofs.expanding.leads_to_rule.Goals as goal

pub returns-in-len1-up : goal.returns-in-len1-up
returns-in-len1-up c =
    c.are_rule_alone.ensures ∙ some_lead c.args.rule.now c.args.productions.now c.in-len1-up.len_at_least
