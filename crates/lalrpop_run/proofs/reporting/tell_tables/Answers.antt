use Rattle.std.proofs.Common.{◌≡◌, ◌∙◌, ℕ, List, Vec, Err, ap, false, refl, rules, subst, sym, true}
use Rattle.std.specs.Prelude.{Result}
use Rattle.std.specs.declared.alloc.Global.{Global}
use Rattle.lalrpop_lane_report.specs.TableReports.{table_report, token_set_texts}
use Rattle.lalrpop_lr1_core.specs.declared.state.State.{State}
use Rattle.lalrpop_lr1_core.specs.declared.table_fault.TableFault.{TableFault}
use Rattle.lalrpop_lr1_core.specs.declared.table_fault.TableFault.TheVariants as faults
use Rattle.lalrpop_run.specs.Report.{TellsReport}
use Rattle.lalrpop_run.specs.declared.replies.reply.Reply.TheVariants as replies
use Rattle.lalrpop_run.proofs.reporting.tell_tables.Goals as goal

abbrev Tables : Type 0
Tables = Result (Vec (State (List ℕ)) Global) (TableFault (List ℕ))

pub returns-in_ok-report_text-in-Ok : goal.returns-in_ok-report_text-in-Ok
returns-in_ok-report_text-in-Ok c =
    let tokens = token_set_texts c.args.terminals.now in
    let text = c.in_ok-report_text-in-Ok.field-0 in
    subst (λ (t : Tables). TellsReport tokens t (replies.Report text false)) (sym c.in-Ok.is)
    (text, c.in_ok-report_text-in-Ok.ensures ∙ ap (λ (t : Tables). table_report tokens t) c.in-Ok.is, refl)

pub returns-in_ok-report_text-in-Err-Conflicts : goal.returns-in_ok-report_text-in-Err-Conflicts
returns-in_ok-report_text-in-Err-Conflicts c =
    let tokens = token_set_texts c.args.terminals.now in
    let text = c.in_ok-report_text-in-Err-Conflicts.field-0 in
    let is : ◌≡◌ {A = Tables} c.args.tables.now (Err (faults.Conflicts c.in-Err-Conflicts.field-0-0)) = search rules in
    subst (λ (t : Tables). TellsReport tokens t (replies.Report text true)) (sym is)
    (text, c.in_ok-report_text-in-Err-Conflicts.ensures ∙ ap (λ (t : Tables). table_report tokens t) is, refl)
