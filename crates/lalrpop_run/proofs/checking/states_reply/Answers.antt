use Rattle.std.proofs.Common.{ap}
use Rattle.std.proofs.lemmas.Result.{IfOk-weaker}
use Rattle.lalrpop_run.proofs.ParserLemmas.{counted}
use Rattle.lalrpop_run.specs.Check.{IsCheckReply}
use Rattle.lalrpop_run.specs.declared.replies.reply.Reply.TheVariants as replies
use Rattle.lalrpop_run.proofs.checking.states_reply.Goals as goal

pub returns-in-Ok : goal.returns-in-Ok
returns-in-Ok c = λ q g by prepared.
    let v = c.args.prepared.now in
    let count = c.in-Ok.parser.count in
    counted q g v prepared c.in-Ok.ensures.lr1 c.in-Ok.ensures.one_tree c.args.method count (replies.Parser c.state_count.result) by
    c.in-Ok.ensures.states (ap replies.Parser c.state_count.ensures)

pub returns-in-Err : goal.returns-in-Err
returns-in-Err c =
    IfOk-weaker c.conflicts_reply.result _ _ (λ reply told q g by prepared. IsCheckReply.no_parser (told q g prepared))
    c.conflicts_reply.ensures
