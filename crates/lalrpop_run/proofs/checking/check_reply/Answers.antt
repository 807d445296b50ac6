use Rattle.std.proofs.Common.{refl}
use Rattle.std.proofs.lemmas.Result.{IfOk-weaker}
use Rattle.lalrpop_run.specs.Check.{IsCheckReply}
use Rattle.lalrpop_run.specs.Questions.{question_view}
use Rattle.lalrpop_run.proofs.ListedFaultLemmas.{refused_reply}
use Rattle.lalrpop_run.proofs.ParserLemmas.{lent}
use Rattle.lalrpop_run.proofs.checking.check_reply.Goals as goal

pub returns-in-Ok : goal.returns-in-Ok
returns-in-Ok c =
    IfOk-weaker c.states_reply.result _ _
    (λ reply told read. told (question_view c.args.question) c.args.grammar refl
    (lent (question_view c.args.question) c.args.grammar c.deref.ensures (c.in-Ok.ensures.prepared read)))
    c.states_reply.ensures

pub returns-in-Err : goal.returns-in-Err
returns-in-Err c =
    IfOk-weaker c.refusal_reply.result _ _
    (λ reply told read. IsCheckReply.no_parser
    (refused_reply (question_view c.args.question) c.args.grammar c.in-Err.error reply told.0 (c.in-Err.ensures.refused read) told.1))
    c.refusal_reply.ensures
