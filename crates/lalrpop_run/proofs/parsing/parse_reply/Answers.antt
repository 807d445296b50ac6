use Rattle.std.proofs.Common.{refl}
use Rattle.std.proofs.lemmas.Result.{IfOk-weaker}
use Rattle.lalrpop_run.specs.Questions.{question_view}
use Rattle.lalrpop_run.proofs.ListedFaultLemmas.{refused_reply}
use Rattle.lalrpop_run.proofs.ParserLemmas.{lent, no_parser_parsed}
use Rattle.lalrpop_run.proofs.parsing.parse_reply.Goals as goal

pub returns-in-Ok : goal.returns-in-Ok
returns-in-Ok c =
    IfOk-weaker c.text_reply.result _ _
    (λ reply told read. told (question_view c.args.question) c.args.grammar refl
    (lent (question_view c.args.question) c.args.grammar c.deref.ensures (c.in-Ok.ensures.prepared read)))
    c.text_reply.ensures

pub returns-in-Err : goal.returns-in-Err
returns-in-Err c =
    IfOk-weaker c.refusal_reply.result _ _
    (λ reply told read. no_parser_parsed (question_view c.args.question) c.args.grammar c.args.text.now reply
    (refused_reply (question_view c.args.question) c.args.grammar c.in-Err.error reply told.0 (c.in-Err.ensures.refused read) told.1))
    c.refusal_reply.ensures
