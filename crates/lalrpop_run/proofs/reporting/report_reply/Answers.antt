use Rattle.std.proofs.Common.{refl}
use Rattle.std.proofs.lemmas.Result.{IfOk-weaker}
use Rattle.lalrpop_grammar.specs.Views.{grammar_view}
use Rattle.lalrpop_run.specs.Questions.{asked_of, question_view}
use Rattle.lalrpop_run.specs.Report.{IsReportReply}
use Rattle.lalrpop_run.proofs.ListedFaultLemmas.{refusal_listed}
use Rattle.lalrpop_run.proofs.ParserLemmas.{lent}
use Rattle.lalrpop_run.proofs.reporting.report_reply.Goals as goal

pub returns-in-Ok : goal.returns-in-Ok
returns-in-Ok c =
    IfOk-weaker c.tables_reply.result _ _
    (λ reply told read. told (question_view c.args.question) c.args.grammar refl
    (lent (question_view c.args.question) c.args.grammar c.deref.ensures (c.in-Ok.ensures.prepared read)))
    c.tables_reply.ensures

pub returns-in-Err : goal.returns-in-Err
returns-in-Err c =
    IfOk-weaker c.refusal_reply.result _ _
    (λ reply told read.
    let q = question_view c.args.question in
    let stands = refusal_listed (asked_of q) (grammar_view c.args.grammar) c.in-Err.error told.0 (c.in-Err.ensures.refused read) in
    IsReportReply.refused stands.0 stands.1 (c.in-Err.error, stands.2, told.1))
    c.refusal_reply.ensures
